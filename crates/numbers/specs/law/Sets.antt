-- "A set is a number whose bit i (value 2^i) says that item i is in it." "A negative number is no set": it has no items.
-- Assumes nothing.
use Rattle.std.specs.Prelude.{Bool, ℕ, ◌/◌, ◌%◌, ◌^◌, eqb, ℤ}
use Rattle.std.specs.Int.Bits.{bit_and}
use Rattle.std.specs.Int.Count.{ones}
use Rattle.numbers.specs.law.Signed.{pos_part}

abbrev pub bit : ℕ → ℕ → ℕ
bit n i = n / 2 ^ i % 2

abbrev pub member_of : ℤ → ℕ → Bool
member_of set i = eqb (bit (pos_part set) i) 1

-- the count of ones
abbrev pub count_of : ℤ → ℕ
count_of set = ones (pos_part set)

-- no item is in both
abbrev pub disjoint_of : ℤ → ℤ → Bool
disjoint_of a b = eqb (bit_and (pos_part a) (pos_part b)) 0

-- every item of a is in b
abbrev pub subset_of : ℤ → ℤ → Bool
subset_of a b = eqb (bit_and (pos_part a) (pos_part b)) (pos_part a)
