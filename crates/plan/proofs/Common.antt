-- What most proofs of this crate cite, passed on under one name, so that the head of a proof names the laws that it rests on.
pub use mathlib.Core.Path.{◌≡◌, refl, sym, ap, ap₂, ◌∙◌}
pub use mathlib.Core.Bool.{Bool, true, false, ◌&&◌}
pub use Prim.Native.Nat.{ℕ, ◌+◌, ◌-◌, ◌*◌, ◌^◌, ◌<◌, ◌≤◌}
pub use native.Mathlib.Omega.{arith}
pub use borrow.Author.Rules.{rules}
pub use borrow.Author.Tests.{le-leb, lt-leb, eq-eqb, ne_eqb}
pub use lib.Dec.{leb, eqb}
pub use lib.IntN.{ℤ, pos, nat_abs, ◌+ℤ◌, ◌-ℤ◌}
pub use lib.ListN.{length}
pub use lib.Signed.{le_z}
pub use mir.Syntax.{w64}
pub use mir.Val.{to_z, of_z}
pub use mir.Facts.{to_z-of_z}
pub use Rattle.numbers.specs.inside.SignedLocals.{Held, held, held_fits, param, literal, ◌+ʳ◌, ◌-ʳ◌, ◌*ʳ◌, kept}
pub use Rattle.plan.specs.inside.CaseSizes.{counted}
