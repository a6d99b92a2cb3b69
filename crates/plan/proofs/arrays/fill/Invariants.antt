-- The slots before `i` are filled.
use Rattle.std.proofs.Common.{◌≡◌, ◌<◌, ℕ, get_or}
use Rattle.plan.proofs.arrays.fill.Given as goal

abbrev pub invariant-loop-i : goal.invariant-loop-i
invariant-loop-i g l =
    (none : _) (f : ℕ → _) → ((i : ℕ) → i < l.i → (r : _) → g.F.Fn.post l.part (i, tt) r → r ≡ f i) → (i : ℕ) → i < l.i → get_or l.slots i none ≡ f i
