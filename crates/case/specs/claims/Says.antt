-- A test of the law and a fact of numbers that say the same.
-- Assumes nothing.
use Rattle.std.specs.Prelude.{◌≡◌, Bool, true, ℤ, ◌≤ℤ◌}

-- the test is passed exactly where the fact holds
pub record Says (test : Bool) (Fact : Type 0) : Type 0 where
  pub fact : test ≡ true → Fact
  pub passed : Fact → test ≡ true

-- a number in its range
pub record Between (low x high : ℤ) : Type 0 where
  pub least : low ≤ℤ x
  pub most : x ≤ℤ high
