-- One turn of a merge: the row or the pair that is settled adds to the figures what the look-up finds for it.
-- Assumes nothing.
use Rattle.std.specs.Prelude.{Bool, false, true, List, ◌≡◌, ℕ, ◌+◌, ◌-◌, ◌*◌, ◌<◌, ◌≤◌, ℤ, pos, nat_abs}
use Rattle.std.proofs.Math.Path.{refl, ap}
use Rattle.std.proofs.Common.{sym, ap₂, ◌∙◌, add-one, arith}
use Rattle.std.proofs.Math.IntN.{◌+ℤ◌}
use Rattle.numbers.specs.law.Sums.{sum, sum_n, count, only, only_n}
use Rattle.numbers.specs.inside.SumLaws.{count_most}
use Rattle.numbers.specs.inside.SignedParts.{ints}
use Rattle.numbers.specs.inside.SignedBounds.{abs_add}
use Rattle.numbers.specs.inside.SignedLinear.{v, ◌⊞◌, eq! }
use Rattle.settlement.specs.declared.figures.Figures.{Figures}
use Rattle.settlement.specs.declared.merge.Merged.{Merged}
use Rattle.settlement.specs.declared.merge.Sums.{Sums}
use Rattle.settlement.specs.law.Records.{rows_of, time_of, grams_of}
use Rattle.settlement.specs.law.LookUp.{Found, found, missing}
use Rattle.settlement.specs.law.Settled.{opposite, settled_pair, standing, is_agreed, is_cut, is_missing, standing_at, agreed_at, cut_at, alone_at, alone_grams}
use Rattle.settlement.specs.law.Settled.{settled_total, settled_figures}
use Rattle.settlement.specs.inside.Adding.{Grams, Room, pair_added, row_added, grams_small, pair_grams}
use Rattle.settlement.specs.inside.Merging.{Meter, Meters, Left, Before, earliest, sums_to, Merging}
use Rattle.settlement.specs.inside.RecordLaws.{earlier, not_later, is_left, is_before, same_time}
use Rattle.settlement.specs.inside.LookUpLaws.{row_found, row_missing}
use Rattle.settlement.specs.inside.PairCounts.{sender_in_pairs, receiver_in_pairs}

sum_with : (f : ℕ → ℤ) (i : ℕ) {x : ℤ} → f i ≡ x → sum (i + 1) f ≡ sum i f +ℤ x
unfolding sum
sum_with f i e = rw (add-one i, e)

count_with : (w : ℕ → Bool) (i : ℕ) {b : Bool} → w i ≡ b → count (i + 1) w ≡ count i w + only_n b 1
unfolding count sum_n
count_with w i e = rw (add-one i, e)

-- where the row or pair is added in the total of both records
beside : (a b x : ℤ) → a +ℤ x +ℤ (b +ℤ pos 0) ≡ a +ℤ b +ℤ x
beside a b x = eq! (v a ⊞ v x ⊞ (v b ⊞ v (pos 0))) (v a ⊞ v b ⊞ v x) (omega arith)

before : (a b x : ℤ) → a +ℤ x +ℤ b ≡ a +ℤ b +ℤ x
before a b x = eq! (v a ⊞ v x ⊞ v b) (v a ⊞ v b ⊞ v x) (omega arith)

after : (a b x : ℤ) → a +ℤ (b +ℤ x) ≡ a +ℤ b +ℤ x
after a b x = eq! (v a ⊞ (v b ⊞ v x)) (v a ⊞ v b ⊞ v x) (omega arith)

abbrev sums : ℤ → ℕ → ℕ → Sums
sums total agreed cut = record { total = total; agreed = agreed; cut = cut }

same_sums : {t u : ℤ} {a b c d : ℕ} → t ≡ u → a ≡ b → c ≡ d → sums t a c ≡ sums u b d
same_sums t a c = cc

-- the parts of a row, by what was found
module _ (sender receiver : List ℤ) (agreed : ℤ) (i : ℕ) {x : Found} (e : opposite sender receiver i ≡ x) where
  standing_is : standing_at sender receiver agreed i ≡ standing agreed (grams_of sender i) x
  unfolding standing_at
  standing_is = ap (standing agreed (grams_of sender i)) e

  agreed_is : agreed_at sender receiver agreed i ≡ is_agreed agreed (grams_of sender i) x
  unfolding agreed_at
  agreed_is = ap (is_agreed agreed (grams_of sender i)) e

  cut_is : cut_at sender receiver agreed i ≡ is_cut agreed (grams_of sender i) x
  unfolding cut_at
  cut_is = ap (is_cut agreed (grams_of sender i)) e

  alone_is : alone_at sender receiver i ≡ is_missing x
  unfolding alone_at
  alone_is = ap is_missing e

  alone_grams_lem : alone_grams sender receiver i ≡ only (is_missing x) (grams_of sender i)
  unfolding alone_grams
  alone_grams_lem = ap (λ (b : Bool). only b (grams_of sender i)) alone_is

-- ---- the figures with one turn more

module _ (sender receiver : List ℤ) (agreed : ℤ) (i j : ℕ) where
  abbrev stood : ℕ → ℤ
  stood = standing_at sender receiver agreed

  abbrev lone : ℕ → ℤ
  lone = alone_grams receiver sender

  pair_turn : opposite sender receiver i ≡ found (grams_of receiver j) → opposite receiver sender j ≡ found (grams_of sender i)
      → sums_to sender receiver agreed (i + 1) (j + 1) ≡ pair_added (sums_to sender receiver agreed i j) agreed (grams_of sender i) (grams_of receiver j)
  unfolding sums_to
  pair_turn e k =
      let s = sum_with stood i (standing_is sender receiver agreed i e) in
      let r = sum_with lone j (alone_grams_lem receiver sender agreed j k) in
      same_sums
      (ap₂ ◌+ℤ◌ s r ∙ beside (sum i stood) (sum j lone) (settled_pair agreed (grams_of sender i) (grams_of receiver j)))
      (count_with (agreed_at sender receiver agreed) i (agreed_is sender receiver agreed i e))
      (count_with (cut_at sender receiver agreed) i (cut_is sender receiver agreed i e))

  sender_turn : opposite sender receiver i ≡ missing
      → sums_to sender receiver agreed (i + 1) j ≡ row_added (sums_to sender receiver agreed i j) (grams_of sender i)
  unfolding sums_to
  sender_turn e =
      let s = sum_with stood i (standing_is sender receiver agreed i e) in
      same_sums
      (ap (λ (z : ℤ). z +ℤ sum j lone) s ∙ before (sum i stood) (sum j lone) (grams_of sender i))
      (count_with (agreed_at sender receiver agreed) i (agreed_is sender receiver agreed i e) ∙ omega arith)
      (count_with (cut_at sender receiver agreed) i (cut_is sender receiver agreed i e) ∙ omega arith)

  receiver_turn : opposite receiver sender j ≡ missing
      → sums_to sender receiver agreed i (j + 1) ≡ row_added (sums_to sender receiver agreed i j) (grams_of receiver j)
  unfolding sums_to
  receiver_turn e =
      let r = sum_with lone j (alone_grams_lem receiver sender agreed j e) in
      same_sums
      (ap (λ (z : ℤ). sum i stood +ℤ z) r ∙ after (sum i stood) (sum j lone) (grams_of receiver j))
      refl
      refl

-- ---- which rows are passed

module _ (meter other : List ℤ) (m : Meter meter) (i j : ℕ) (l : i < rows_of meter) where
  -- row i of one record and row j of the other have one time
  pass_both : Meter other → time_of meter i ≡ time_of other j → (x : ℕ) → x < i + 1 → Before meter other x (j + 1)
  pass_both o e x p h = let a = not_later m x i p l in let b = earlier o j (j + 1) (omega arith) h in omega (ints, a, b, e)

  -- row i is the earliest
  pass_one : Before meter other i j → (x : ℕ) → x < i + 1 → Before meter other x j
  pass_one before x p h = let a = not_later m x i p l in let b = before h in omega (ints, a, b)

  stay_passed : ((y : ℕ) → y < j → Before other meter y i) → (y : ℕ) → y < j → Before other meter y (i + 1)
  stay_passed passed y p h = let a = passed y p l in let b = earlier m i (i + 1) (omega arith) h in omega (ints, a, b)

-- ---- a turn

module _ {sender receiver : List ℤ} {agreed : ℤ} (k : Meters sender receiver) {m : Merged} (h : Merging sender receiver agreed m) where
  pub room : Room m.sums
  unfolding sums_to
  room =
      let s = k.of_sender.few in
      let r = k.of_receiver.few in
      record {
        total = omega (arith, h.small, h.upto_sender, h.upto_receiver, s, r);
        agreed = rw h.so_far (omega (arith, count_most m.i (agreed_at sender receiver agreed), h.upto_sender, s));
        cut = rw h.so_far (omega (arith, count_most m.i (cut_at sender receiver agreed), h.upto_sender, s));
      }

  pub sender_grams : m.i < rows_of sender → Grams (grams_of sender m.i)
  sender_grams l = record { in_range = k.of_sender.sized m.i l }

  pub receiver_grams : m.j < rows_of receiver → Grams (grams_of receiver m.j)
  receiver_grams l = record { in_range = k.of_receiver.sized m.j l }

  -- a mass more in the total
  grown : {x : ℤ} → Grams x → nat_abs (m.sums.total +ℤ x) ≤ (m.i + m.j) * 1000000000000 + 1000000000000
  grown {x} g = omega (arith, abs_add m.sums.total x, (grams_small g).bound, h.small)

  pub both_settled : Left sender receiver m.i m.j → earliest sender receiver m.i m.j ≡ false → earliest receiver sender m.j m.i ≡ false → (f : Sums)
      → f ≡ pair_added m.sums agreed (grams_of sender m.i) (grams_of receiver m.j)
      → Merging sender receiver agreed (record { i = m.i + 1; j = m.j + 1; sums = f })
  both_settled l a b f g =
      let e = same_time l a b in
      let i = m.i in
      let j = m.j in
      let n = row_found sender k.of_receiver i j e.1 e.2 in
      let o = row_found receiver k.of_sender j i e.0 (sym e.2) in
      let x = pair_grams agreed {s = grams_of sender i} {r = grams_of receiver j} (sender_grams e.0) (receiver_grams e.1) in
      record {
        upto_sender = omega (arith, e.0);
        upto_receiver = omega (arith, e.1);
        sender_passed = pass_both sender receiver k.of_sender i j e.0 k.of_receiver e.2;
        receiver_passed = pass_both receiver sender k.of_receiver j i e.1 k.of_sender (sym e.2);
        small = rw g (omega (arith, grown x));
        so_far =
            g
            ∙ ap (λ (y : Sums). pair_added y agreed (grams_of sender i) (grams_of receiver j)) h.so_far
            ∙ sym (pair_turn sender receiver agreed i j n o);
      }

  pub sender_settled : earliest sender receiver m.i m.j ≡ true → (f : Sums) → f ≡ row_added m.sums (grams_of sender m.i)
      → Merging sender receiver agreed (record { i = m.i + 1; j = m.j; sums = f })
  sender_settled e f g =
      let i = m.i in
      let j = m.j in
      let l = is_left sender receiver i j e in
      let b = is_before sender receiver i j e in
      let n = row_missing sender k.of_receiver i j l h.receiver_passed b in
      record {
        upto_sender = omega (arith, l);
        upto_receiver = h.upto_receiver;
        sender_passed = pass_one sender receiver k.of_sender i j l b;
        receiver_passed = stay_passed sender receiver k.of_sender i j l h.receiver_passed;
        small = rw g (omega (arith, grown (sender_grams l)));
        so_far = g ∙ ap (λ (y : Sums). row_added y (grams_of sender i)) h.so_far ∙ sym (sender_turn sender receiver agreed i j n);
      }

  pub receiver_settled : earliest receiver sender m.j m.i ≡ true → (f : Sums) → f ≡ row_added m.sums (grams_of receiver m.j)
      → Merging sender receiver agreed (record { i = m.i; j = m.j + 1; sums = f })
  receiver_settled e f g =
      let i = m.i in
      let j = m.j in
      let l = is_left receiver sender j i e in
      let b = is_before receiver sender j i e in
      let n = row_missing receiver k.of_sender j i l h.sender_passed b in
      record {
        upto_sender = h.upto_sender;
        upto_receiver = omega (arith, l);
        sender_passed = stay_passed receiver sender k.of_receiver j i l h.sender_passed;
        receiver_passed = pass_one receiver sender k.of_receiver j i l b;
        small = rw g (omega (arith, grown (receiver_grams l)));
        so_far = g ∙ ap (λ (y : Sums). row_added y (grams_of receiver j)) h.so_far ∙ sym (receiver_turn sender receiver agreed i j n);
      }

-- ---- the beginning and the end

pub begun : {sender receiver : List ℤ} {agreed : ℤ} → Merging sender receiver agreed (record { i = 0; j = 0; sums = sums (pos 0) 0 0 })
unfolding sums_to sum count sum_n
begun = record {
  upto_sender = omega arith;
  upto_receiver = omega arith;
  sender_passed = λ x l. absurd (omega (arith, l));
  receiver_passed = λ y l. absurd (omega (arith, l));
  small = omega arith;
  so_far = refl;
}

same_figures : {t u : ℤ} {a b c d s x r y : ℕ} → t ≡ u → a ≡ b → c ≡ d → s ≡ x → r ≡ y → ◌≡◌ {A = Figures}
    (record { total = t; agreed = a; cut = c; sender = s; receiver = r }) (record { total = u; agreed = b; cut = d; sender = x; receiver = y })
same_figures t a c s r = cc

module _ {sender receiver : List ℤ} {agreed : ℤ} {m : Merged} (h : Merging sender receiver agreed m)
    (l : rows_of sender + rows_of receiver ≤ m.i + m.j) where
  all_sums : m.sums ≡ sums_to sender receiver agreed (rows_of sender) (rows_of receiver)
  all_sums =
      let i : m.i ≡ rows_of sender = omega (arith, h.upto_sender, h.upto_receiver, l) in
      let j : m.j ≡ rows_of receiver = omega (arith, h.upto_sender, h.upto_receiver, l) in
      h.so_far ∙ ap₂ (sums_to sender receiver agreed) i j

  -- each record's rows are in pairs, or alone
  sender_counted : m.sums.agreed + m.sums.cut + (settled_figures sender receiver agreed).sender ≡ rows_of sender
  unfolding sums_to settled_figures
  sender_counted = rw all_sums (sender_in_pairs sender receiver agreed)

  receiver_counted : Meters sender receiver → m.sums.agreed + m.sums.cut + (settled_figures sender receiver agreed).receiver ≡ rows_of receiver
  unfolding sums_to settled_figures
  receiver_counted k = rw all_sums (receiver_in_pairs k agreed)

pub pairs_few : {sender receiver : List ℤ} {agreed : ℤ} {m : Merged} → Meters sender receiver → Merging sender receiver agreed m
    → rows_of sender + rows_of receiver ≤ m.i + m.j → (m.sums.agreed + m.sums.cut ≤ rows_of sender) × (m.sums.agreed + m.sums.cut ≤ rows_of receiver)
pairs_few k h l = (omega (arith, sender_counted h l), omega (arith, receiver_counted h l k))

pub ended : {sender receiver : List ℤ} {agreed : ℤ} {m : Merged} → Meters sender receiver → Merging sender receiver agreed m
    → rows_of sender + rows_of receiver ≤ m.i + m.j → record {
      total = m.sums.total;
      agreed = m.sums.agreed;
      cut = m.sums.cut;
      sender = rows_of sender - m.sums.agreed - m.sums.cut;
      receiver = rows_of receiver - m.sums.agreed - m.sums.cut;
    } ≡ settled_figures sender receiver agreed
unfolding sums_to settled_figures settled_total
ended {sender} {receiver} {agreed} {m} k h l =
    let a = all_sums h l in
    let s : rows_of sender - m.sums.agreed - m.sums.cut ≡ (settled_figures sender receiver agreed).sender = omega (arith, sender_counted h l) in
    let r : rows_of receiver - m.sums.agreed - m.sums.cut ≡ (settled_figures sender receiver agreed).receiver = omega (arith, receiver_counted h l k) in
    same_figures (ap (λ (y : Sums). y.total) a) (ap (λ (y : Sums). y.agreed) a) (ap (λ (y : Sums). y.cut) a) s r
