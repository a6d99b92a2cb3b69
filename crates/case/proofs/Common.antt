-- What most proofs of this crate cite, passed on under one name, so that the head of a proof names the laws that it rests on.
pub use native.Mathlib.Omega.{arith}
pub use mathlib.Core.Path.{◌∙◌, ◌≡◌, ap, sym, refl}
pub use Prim.Native.Nat.{ℕ, ◌+◌, ◌<◌, ◌≤◌}
pub use Rattle.numbers.specs.law.Question.{first_no}
pub use Rattle.numbers.specs.inside.QuestionLaws.{first_no_append}
pub use mir.Facts.{to_z-of_z}
pub use lib.IntN.{pos}
