-- A number more is stored, or the reading ends where it stands; a number takes at least one byte, and what is asked for is no more than one past the end.
use Rattle.std.proofs.Common.{◌≡◌, ◌≤◌, ◌-◌, List, ℕ, suc, sym, ◌∙◌, arith, length, drop, length-drop, w64, to_z, of_z, to_z-of_z}
use Rattle.std.proofs.Common.{refl, ◌<◌, Bool, true, false, nat_lt, ltb-true, Ok}
use Rattle.numbers.specs.law.Question.{Answer, answer}
use Rattle.numbers.specs.law.Mapping.{signed_of}
use Rattle.numbers.specs.law.Reading.{number_of, whole, wrong}
use Rattle.numbers.specs.inside.ReadingBounds.{used_some, asked_some}
use Rattle.numbers.proofs.Stored.{store_no, store_turn}
use Rattle.numbers.proofs.reader.read.Goals as goal

-- how many bytes the number at `at` takes, or asks for
module _ (bytes : List ℕ) (at : ℕ) where
  used : {v u : ℕ} → whole v u ≡ number_of (drop at bytes) → (1 ≤ u) × (u ≤ length bytes - at)
  used {v} e = let u = used_some (drop at bytes) {v = v} (sym e) in (u.0, omega (arith, u.1, length-drop at bytes))

  asked : {n k : ℕ} → wrong n k ≡ number_of (drop at bytes) → (1 ≤ k) × (k ≤ suc (length bytes - at))
  asked {n} e = let k = asked_some (drop at bytes) {n = n} (sym e) in (k.0, omega (arith, k.1, length-drop at bytes))

-- a place is free where 3 is a yes
free : (at count n : ℕ) (one : Answer) → one ≡ answer (nat_lt count n) 3 0 at → one ≡ Ok tt → count < n
free at count n one e y = go (nat_lt count n) refl (sym e ∙ y)
  where
    go : (b : Bool) → nat_lt count n ≡ b → answer b 3 0 at ≡ Ok tt → count < n
    go true t z = ltb-true count n t
    go false t z = cc

pub overflow_add-at : goal.overflow_add-at
overflow_add-at c = record { fits = omega (arith, (used c.args.bytes.now c.loop-at.at c.in-Ok.ensures).1, c.loop-at.invariant.inside) }

pub loop-at-smaller : goal.loop-at-smaller
loop-at-smaller c = omega (arith, (used c.args.bytes.now c.loop-at.at c.in-Ok.ensures).0, c.loop-at-test.true)

pub loop-at-preserved : goal.loop-at-preserved
loop-at-preserved c =
    let v : to_z w64 (of_z w64 c.signed.result) ≡ signed_of c.in-Ok.n.value =
    to_z-of_z {w = w64} (record { sfits = c.signed.type_inv }) ∙ c.signed.ensures in
    rw v (store_turn c.loop-at.invariant c.loop-at-test.true (free _ _ _ _ c.ask.ensures c.in_ok-ask.was) (sym c.in-Ok.ensures))

pub overflow_add-result : goal.overflow_add-result
overflow_add-result c = record { fits = omega (arith, (asked c.args.bytes.now c.loop-at.at c.in-Err.ensures).1, c.loop-at.invariant.inside) }

pub overflow_sub-result : goal.overflow_sub-result
overflow_sub-result c = omega (arith, (asked c.args.bytes.now c.loop-at.at c.in-Err.ensures).0)

pub returns-in-Err : goal.returns-in-Err
returns-in-Err c =
    let s = store_no c.loop-at.invariant c.loop-at-test.true (free _ _ _ _ c.ask.ensures c.in_ok-ask.was) (sym c.in-Err.ensures) in
    record { result_value = s.told; list_after = s.stored }
