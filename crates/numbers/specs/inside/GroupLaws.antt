-- Groups of seven bits, by whether the number is below 128; and what is told of a writing, by whether it fits.
-- Assumes nothing.
use Rattle.std.specs.Prelude.{◌≡◌, Bool, List, [], ◌∷◌, ℕ, zero, suc, ◌+◌, ◌/◌, ◌%◌, ◌≤◌, ◌<◌, ltb, ℤ, pos, get_or, Option, Some, None}
use Rattle.std.proofs.Math.Path.{refl, ap}
use Rattle.std.proofs.Math.Bool.{true, false, cond}
use native.Mathlib.Omega.{arith}
use borrow.Author.Tests.{lt-ltb, le-ltb, leb-true}
use Rattle.std.proofs.Math.Dec.{leb}
use Rattle.std.proofs.Math.IntN.{nat_abs}
use Rattle.std.proofs.Math.ListN.{length}
use Rattle.numbers.specs.law.Told.{Told, gives, refuses}
use Rattle.numbers.specs.law.Groups.{groups_up_to, groups, encode, write_told}

-- how many bytes a list takes, where they fit
unfoldable pub size_of : List ℤ → ℕ → Option ℕ
size_of list room = cond (leb (length (encode list)) room) (Some (length (encode list))) None

pub one_group : (more m : ℕ) → m < 128 → groups_up_to more m ≡ m ∷ []
one_group zero m h = refl
one_group (suc more) m h = rw (lt-ltb m 128 h)

pub more_groups : (more m : ℕ) → 128 ≤ m → groups_up_to (suc more) m ≡ (m % 128 + 128) ∷ groups_up_to more (m / 128)
more_groups more m h = rw (le-ltb m 128 h)

pub some_group : (more m : ℕ) → 1 ≤ length (groups_up_to more m)
some_group zero m = omega arith
some_group (suc more) m = go (ltb m 128)
  where
    go : (b : Bool) → 1 ≤ length (cond b (m ∷ []) ((m % 128 + 128) ∷ groups_up_to more (m / 128)))
    go true = omega arith
    go false = omega arith

pub most_groups : (more m : ℕ) → length (groups_up_to more m) ≤ suc more
most_groups zero m = omega arith
most_groups (suc more) m = go (most_groups more (m / 128)) (ltb m 128)
  where
    go : length (groups_up_to more (m / 128)) ≤ suc more → (b : Bool)
        → length (cond b (m ∷ []) ((m % 128 + 128) ∷ groups_up_to more (m / 128))) ≤ suc (suc more)
    go h true = omega arith
    go h false = omega arith

pub at_most_ten : (m : ℕ) → length (groups m) ≤ 10
unfolding groups
at_most_ten m = most_groups 9 m

-- what is told of a writing: a count within the room, or 4 at place 0
module _ (list : List ℤ) (room : ℕ) where
  pub write_within : (count : ℕ) → gives (pos count ∷ []) ≡ write_told list room → count ≤ room
  unfolding write_told
  write_within count e = go (leb (length (encode list)) room) refl e
    where
      go : (b : Bool) → leb (length (encode list)) room ≡ b
          → gives (pos count ∷ []) ≡ cond b (gives (pos (length (encode list)) ∷ [])) (refuses 4 0 0) → count ≤ room
      go true t e =
          let v = ap (λ (t : Told). nat_abs (get_or t.values 0 (pos 0))) e in
          let h = leb-true (length (encode list)) room t in
          omega arith
      go false t e = let v = ap (λ (t : Told). length t.values) e in omega arith

  pub write_refusal : (number place : ℕ) → refuses number 0 place ≡ write_told list room → (number ≡ 4) × (place ≡ 0)
  unfolding write_told
  write_refusal number place e = go (leb (length (encode list)) room) e
    where
      go : (b : Bool) → refuses number 0 place ≡ cond b (gives (pos (length (encode list)) ∷ [])) (refuses 4 0 0) → (number ≡ 4) × (place ≡ 0)
      go true e = let v = ap (λ (t : Told). length t.values) e in let f : ⊥ = omega arith in absurd f
      go false e = (ap (λ (t : Told). t.number) e, ap (λ (t : Told). nat_abs (get_or t.values 1 (pos 0))) e)
