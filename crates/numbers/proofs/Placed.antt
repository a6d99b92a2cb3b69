-- Groups placed in the lent bytes: by a loop, by which what the bytes hold at the end stays the same; and in two goes, of which the later stands.
-- Assumes nothing.
use mathlib.Core.Path.{◌≡◌, refl, ap, sym, subst, ◌∙◌}
use mathlib.Core.List.{List, [], ◌∷◌, ◌++◌, append_assoc}
use Prim.Native.Nat.{ℕ, suc, ◌+◌, ◌*◌, ◌-◌, ◌/◌, ◌%◌, ◌^◌, ◌≤◌, ◌<◌}
use native.Mathlib.Omega.{arith}
use lib.ListN.{length, set}
use lib.Seq.{sets}
use Rattle.numbers.specs.law.Groups.{groups}
use Rattle.numbers.specs.inside.OverlayLaws.{sets_append, sets_over}
use Rattle.numbers.specs.inside.Pieces.{Placing, place_one}
use Rattle.numbers.specs.inside.LeadingGroups.{leading, past, in_groups, Grouped}
use Rattle.numbers.specs.inside.LeadingGroups.{leading_length, in_groups_length, leading_split, past_split, past_shift, grouped, grouped_one, grouped_by}
use Rattle.numbers.specs.inside.LeadingGroups.{seven_or_more}
use Rattle.numbers.specs.inside.GroupLaws.{at_most_ten}

-- what is to be placed after the first i groups are those of `rest`
pub record Leading (old : List ℕ) (at m count : ℕ) (bytes : List ℕ) (rest i : ℕ) : Type 0 where
  pub upto : i ≤ count
  pub left : past (count - i) rest ≡ past count m
  pub placed : Placing old bytes at (leading count m) (at + i) (leading (count - i) rest)

module _ {old : List ℕ} {at m count : ℕ} {bytes : List ℕ} {rest i : ℕ} (p : Leading old at m count bytes rest i) where
  pub lead_turn : i < count → Leading old at m count (set bytes (at + i) (rest % 128 + 128)) (rest / 128) (i + 1)
  lead_turn h =
      let e : count - i ≡ suc (count - (i + 1)) = omega arith in
      let d : at + (i + 1) ≡ at + i + 1 = omega arith in
      record {
        upto = omega arith;
        left = ap (λ (n : ℕ). past n rest) (sym e) ∙ p.left;
        placed = rw d (place_one p.placed (ap (λ (n : ℕ). leading n rest) e));
      }

-- ---- all groups of a number, one after the other

-- those that another follows and the last, placed in turn, are placed joined
pub last_placed : (old : List ℕ) (at count m : ℕ) → sets old at (in_groups count m) ≡ set (sets old at (leading count m)) (at + count) (past count m)
last_placed old at count m = sets_append old at (leading count m) (past count m ∷ []) ∙ rw (leading_length count m)

-- which they are, by the number's size
module _ (m : ℕ) where
  pub groups_1 : m < 128 → groups m ≡ in_groups 0 m
  groups_1 h = (grouped_one m h).parts

  pub groups_2 : 128 ≤ m → m < 16384 → groups m ≡ in_groups 1 m
  groups_2 l h = (grouped_by 1 m (omega arith) l h (omega arith)).parts

  pub groups_3 : 16384 ≤ m → m < 2097152 → groups m ≡ in_groups 2 m
  groups_3 l h = (grouped_by 2 m (omega arith) l h (omega arith)).parts

  pub groups_4 : 2097152 ≤ m → m < 268435456 → groups m ≡ in_groups 3 m
  groups_4 l h = (grouped_by 3 m (omega arith) l h (omega arith)).parts

  pub groups_5 : 268435456 ≤ m → m < 34359738368 → groups m ≡ in_groups 4 m
  groups_5 l h = (grouped_by 4 m (omega arith) l h (omega arith)).parts

  pub groups_6 : 34359738368 ≤ m → m < 4398046511104 → groups m ≡ in_groups 5 m
  groups_6 l h = (grouped_by 5 m (omega arith) l h (omega arith)).parts

pub ruleset by_size = (groups_1, groups_2, groups_3, groups_4, groups_5, groups_6)

-- ---- the first groups of a number, and then the last ones over them

-- what is left of m after the groups before the last ones
abbrev pub left_after : ℕ → ℕ → ℕ
left_after before m = m / 2 ^ (7 * before)

-- `last` groups stand before the last group and after `before` others
pub record Ends (before last m : ℕ) : Type 0 where
  pub small : past last (left_after before m) < 128
  pub parts : groups m ≡ leading before m ++ in_groups last (left_after before m)

pub ends : (before last m : ℕ) → Grouped (before + last) m → Ends before last m
ends before last m z =
    let s = past_shift before m in
    let p : past (before + last) m ≡ past last (left_after before m) = past_split before last m ∙ ap (past last) s in
    record {
      small = subst (λ (n : ℕ). n < 128) p z.small;
      parts = z.parts ∙ rw (leading_split before last m, p, s) (append_assoc (leading before m) _ _);
    }

module _ {before last m : ℕ} (f : Ends before last m) (old : List ℕ) (at : ℕ) where
  -- after the groups before the last ones
  after : (ys : List ℕ) → sets old at (leading before m ++ ys) ≡ sets (sets old at (leading before m)) (at + before) ys
  after ys = sets_append old at (leading before m) ys ∙ rw (leading_length before m)

  -- the last ones replace what the first ones have from there on
  pub place_over : (first : ℕ) → before ≤ first → first ≤ before + suc last → (one two : List ℕ) → one ≡ sets old at (leading first m)
      → two ≡ sets one (at + before) (in_groups last (left_after before m)) → two ≡ sets old at (groups m)
  place_over first h k one two e d =
      let n : before + (first - before) ≡ first = omega (arith, h) in
      let common = leading (first - before) (past before m) in
      let is : sets old at (leading first m) ≡ sets (sets old at (leading before m)) (at + before) common =
      ap (λ (n : ℕ). sets old at (leading n m)) (sym n) ∙ ap (sets old at) (leading_split before (first - before) m) ∙ after common in
      let short : length common ≤ length (in_groups last (left_after before m)) =
      omega (arith, k, leading_length (first - before) (past before m), in_groups_length last (left_after before m)) in
      d
      ∙ ap (λ (b : List ℕ). sets b (at + before) (in_groups last (left_after before m))) (e ∙ is)
      ∙ sets_over _ (at + before) common (in_groups last (left_after before m)) short
      ∙ sym (after (in_groups last (left_after before m)))
      ∙ ap (sets old at) (sym f.parts)

-- seven groups or more: the first six, and then the last four over them
module _ {m : ℕ} (before : ℕ) (l : 4398046511104 ≤ m) (h : m < 2 ^ 64) (e : before + 4 ≡ length (groups m)) where
  four_end : Ends before 3 m
  four_end = ends before 3 m (grouped (before + 3) m h (omega arith))

  pub four_small : past 3 (left_after before m) < 128
  four_small = four_end.small

  pub four_over : (old : List ℕ) (at : ℕ) → sets (sets old at (leading 6 m)) (at + before) (in_groups 3 (left_after before m)) ≡ sets old at (groups m)
  four_over old at = place_over four_end old at 6 (omega (arith, at_most_ten m)) (omega (arith, seven_or_more m l)) _ _ refl refl

pub ruleset in_two_goes = (seven_or_more, at_most_ten, four_small, four_over)
