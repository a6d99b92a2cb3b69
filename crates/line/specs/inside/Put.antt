-- A text put into a lent line: two that follow one another are one, and at the front it is an overlay.
use Rattle.std.specs.Prelude.{◌≡◌, refl, List, [], ◌∷◌, ◌++◌, ℕ, ◌+◌, ◌≤◌, ◌<◌, length, take, drop, set}
use Rattle.std.proofs.Common.{ap, sym, ◌∙◌, add-one, arith, length-set, length-append, length-take-le}
use Rattle.std.proofs.lemmas.List.Edits.{sets}
use Rattle.std.proofs.Math.Seq.{length-sets, take-length}
use Rattle.numbers.specs.law.Told.{overlay}
use Rattle.numbers.specs.inside.OverlayLaws.{overlay_sets, sets_append}
use Rattle.line.specs.law.Line.{Counts}

-- `new` is `old` with the text from `at` on, all of which it has room for; `next` is the place after the text
pub record Put (old new : List ℕ) (at : ℕ) (text : List ℕ) (next : ℕ) : Type 0 where
  pub line : new ≡ sets old at text
  pub after : next ≡ at + length text
  pub room : next ≤ length old

-- one character
pub put_one : (old : List ℕ) (at b : ℕ) → at < length old → Put old (set old at b) at (b ∷ []) (at + 1)
put_one old at b h = record { line = refl; after = omega arith; room = omega arith }

-- nothing
pub put_none : (old : List ℕ) (at : ℕ) → at ≤ length old → Put old old at [] at
put_none old at h = record { line = refl; after = omega arith; room = h }

-- a character, and the text after it
pub put_first : (old : List ℕ) (at b : ℕ) {new text : List ℕ} {next : ℕ} → Put (set old at b) new (at + 1) text next
    → Put old new at (b ∷ text) next
put_first old at b {text = text} p = record {
  line = p.line ∙ ap (λ (k : ℕ). sets (set old at b) k text) (add-one at);
  after = omega (arith, p.after);
  room = omega (arith, p.room, length-set old at b);
}

-- two texts, one after the other
pub put_both : {old mid new : List ℕ} {at then next : ℕ} {xs ys : List ℕ} → Put old mid at xs then → Put mid new then ys next
    → Put old new at (xs ++ ys) next
put_both {old} {at = at} {xs = xs} {ys = ys} p q = record {
  line = q.line ∙ rw (p.line, p.after) (sym (sets_append old at xs ys));
  after = omega (arith, p.after, q.after, length-append xs ys);
  room = omega (arith, q.room, ap length p.line, length-sets old at xs);
}

-- a text at the front, as `copy` puts it there
pub put_front : (text old : List ℕ) {new : List ℕ} {next : ℕ} → length text ≤ length old → next ≡ length text
    → new ≡ take (length text) text ++ drop (length text) old → Put old new 0 text next
put_front text old h e d = record {
  line = d ∙ rw (take-length text) (sym (overlay_sets text old h));
  after = e ∙ omega arith;
  room = omega arith;
}

-- what stands at the front then
pub put_overlay : {old new text : List ℕ} {next : ℕ} → Put old new 0 text next → (next ≡ length text) × (new ≡ overlay text old)
put_overlay {old} {text = text} p = (p.after ∙ omega arith, p.line ∙ overlay_sets text old (omega (arith, p.after, p.room)))

-- what is put is counted
pub put_counts : {old new text : List ℕ} {at next : ℕ} → Put old new at text next → Counts next new
put_counts {old} {new} {text} {at} {next} p =
    let h : next ≤ length new = omega (arith, p.room, ap length p.line, length-sets old at text) in
    (h, sym (length-take-le next new h))
