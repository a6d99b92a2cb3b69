-- What most proofs of the line cite, passed on under one name.
pub use mathlib.Core.Path.{◌≡◌, refl, sym, ap, ◌∙◌}
pub use mathlib.Core.List.{List, [], ◌∷◌, ◌++◌}
pub use Prim.Native.Nat.{ℕ, ◌+◌, ◌-◌, ◌/◌, ◌^◌, ◌<◌, ◌≤◌}
pub use native.Mathlib.Omega.{arith}
pub use lib.IntN.{ℤ, pos}
pub use lib.ListN.{length, set, length-set}
