-- The first i numbers stand in the line, each in at most 21 places, so that there is room for one more.
use Rattle.line.proofs.Common.{◌≡◌, sym, ap, ◌∙◌, List, [], ◌∷◌, ◌++◌, ℕ, ◌+◌, ◌<◌, ◌≤◌, arith, ℤ, pos, length, set}
use Rattle.line.proofs.Common.{length-set}
use mathlib.Core.List.{append_assoc, append-nil}
use Prim.Native.Nat.{◌*◌}
use native.Mathlib.Numerals.{add-one}
use lib.ListN.{get_or, take}
use lib.Seq.{length-sets, take-suc}
use Rattle.line.specs.law.Decimal.{signed}
use Rattle.line.specs.law.Line.{spaced}
use Rattle.line.specs.inside.Put.{Put, put_first, put_both}

spaced_last : (list : List ℤ) (x : ℤ) → spaced (list ++ (x ∷ [])) ≡ spaced list ++ (32 ∷ signed x)
spaced_last [] x = append-nil (32 ∷ signed x)
spaced_last (y ∷ list) x = ap ((32 ∷ signed y) ++◌) (spaced_last list x) ∙ sym (append_assoc (32 ∷ signed y) (spaced list) (32 ∷ signed x))

-- the first i numbers stand from `start` on, in at most 21 places each
pub record Spacing (list : List ℤ) (old : List ℕ) (start : ℕ) (line : List ℕ) (at i : ℕ) : Type 0 where
  pub upto : i ≤ length list
  pub whole : length line ≡ length old
  pub near : at ≤ start + 21 * i
  pub text : Put old line start (spaced (take i list)) at

module _ {list : List ℤ} {old : List ℕ} {start : ℕ} {line : List ℕ} {at i : ℕ} (s : Spacing list old start line at i) where
  pub space_turn : {new : List ℕ} {next : ℕ} → i < length list → Put (set line at 32) new (at + 1) (signed (get_or list i (pos 0))) next
      → next ≤ at + 1 + 20
      → Spacing list old start new next (i + 1)
  space_turn {new} h p k =
      let x = get_or list i (pos 0) in
      let l = sym (spaced_last (take i list) x) in
      let e : spaced (take i list) ++ (32 ∷ signed x) ≡ spaced (take (i + 1) list) = rw (add-one i, take-suc list i (pos 0)) l in
      record {
        upto = omega arith;
        whole = ap length p.line ∙ length-sets (set line at 32) (at + 1) (signed x) ∙ length-set line at 32 ∙ s.whole;
        near = omega (arith, s.near);
        text = rw e at (put_both s.text (put_first line at 32 p));
      }
