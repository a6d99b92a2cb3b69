-- Settlements that a reader can follow by hand: `each_holds` says that each row is what the law tells. It is carried by computation.
-- Assumes nothing.
use Rattle.std.specs.Prelude.{◌≡◌, refl, List, [], ◌∷◌, ℤ, pos, negsuc}
use Rattle.numbers.specs.law.Told.{Told, gives, refuses}
use Rattle.settlement.specs.law.Settling.{settle_of}
use Rattle.settlement.specs.inside.Computed.{law}

-- the sender's record, the receiver's, the agreed grams, and what is told
abbrev pub Row : Type 0
Row = List ℤ × List ℤ × ℤ × Told

unfoldable pub AllHold : List Row → Type 0
AllHold [] = Unit {0}
AllHold (r ∷ rows) = (settle_of r.0 r.1 r.2 ≡ r.3) × AllHold rows

-- a row of a record, before those that follow
abbrev pub at : ℤ → ℤ → List ℤ → List ℤ
at time grams later = time ∷ grams ∷ later

abbrev pub one : ℤ → List ℤ
one grams = at (pos 3600) grams []

abbrev pub settled : (total agreed cut sender receiver : ℤ) → Told
settled total agreed cut sender receiver = gives (total ∷ agreed ∷ cut ∷ sender ∷ receiver ∷ [])

-- 10^12, the most of a mass and of the agreed grams, and 1 above it; and -1
abbrev pub most : ℤ
most = pos 1000000000000

abbrev pub above : ℤ
above = pos 1000000000001

abbrev pub minus1 : ℤ
minus1 = negsuc 0

-- ---- settled

unfoldable pub settlements : List Row
settlements =
    -- one in each way: 1,000 agreed, 980 the smaller, 1,000 only the sender's, 500 only the receiver's
    (
      at (pos 3600) (pos 1000) (at (pos 7200) (pos 1000) (at (pos 10800) (pos 1000) [])),
      at (pos 3600) (pos 1005) (at (pos 7200) (pos 980) (at (pos 14400) (pos 500) [])),
      pos 10,
      settled (pos 3480) (pos 1) (pos 1) (pos 1) (pos 1),
    )
    -- the receiver's is smaller by 10, and by 11
    ∷ (one (pos 1000), one (pos 990), pos 10, settled (pos 1000) (pos 1) (pos 0) (pos 0) (pos 0))
    ∷ (one (pos 1000), one (pos 989), pos 10, settled (pos 989) (pos 0) (pos 1) (pos 0) (pos 0))
    -- it is larger by 10, and by 11
    ∷ (one (pos 1000), one (pos 1010), pos 10, settled (pos 1000) (pos 1) (pos 0) (pos 0) (pos 0))
    ∷ (one (pos 1000), one (pos 1011), pos 10, settled (pos 1000) (pos 0) (pos 1) (pos 0) (pos 0))
    -- the same records, with nothing agreed
    ∷ (at (pos 0) (pos 1000) (one (pos 980)), at (pos 0) (pos 1000) (one (pos 980)), pos 0, settled (pos 1980) (pos 2) (pos 0) (pos 0) (pos 0))
    -- two empty records, and one
    ∷ ([], [], pos 0, settled (pos 0) (pos 0) (pos 0) (pos 0) (pos 0))
    ∷ (one (pos 1000), [], pos 10, settled (pos 1000) (pos 0) (pos 0) (pos 1) (pos 0))
    ∷ ([], one (pos 1000), pos 10, settled (pos 1000) (pos 0) (pos 0) (pos 0) (pos 1))
    -- no time of both, and the most of a mass and of the agreed grams
    ∷ (one most, at (pos 7200) (pos 500) [], most, settled (pos 1000000000500) (pos 0) (pos 0) (pos 1) (pos 1))
    ∷ []

-- ---- refused

unfoldable pub refusals : List Row
refusals =
    -- 60: half a row, and the agreed grams
    (pos 3600 ∷ [], [], pos 10, refuses 60 0 0)
    ∷ ([], pos 3600 ∷ [], pos 10, refuses 60 0 0)
    ∷ ([], [], minus1, refuses 60 0 0)
    ∷ ([], [], above, refuses 60 0 0)
    -- 61: a time below 0, a time twice, times that fall, and a time twice in the receiver's record
    ∷ (at minus1 (pos 1000) [], [], pos 10, refuses 61 0 0)
    ∷ (at (pos 3600) (pos 1000) (one (pos 1000)), [], pos 10, refuses 61 0 1)
    ∷ (at (pos 7200) (pos 1000) (one (pos 1000)), [], pos 10, refuses 61 0 1)
    ∷ (one (pos 1000), at (pos 3600) (pos 1000) (one (pos 1000)), pos 10, refuses 61 0 1)
    -- 62: a mass above its most, and one below 0 in the second row of the receiver's record
    ∷ (one above, [], pos 10, refuses 62 0 0)
    ∷ (one (pos 1000), at (pos 0) (pos 1000) (one minus1), pos 10, refuses 62 0 1)
    -- 60 before 61, 61 before 62, and the receiver's 61 before the sender's 62
    ∷ (at minus1 (pos 1000) (pos 3600 ∷ []), [], pos 10, refuses 60 0 0)
    ∷ (at (pos 3600) minus1 (one (pos 1000)), [], pos 10, refuses 61 0 1)
    ∷ (one minus1, at (pos 7200) (pos 1000) (one (pos 1000)), pos 10, refuses 61 0 1)
    -- the sender's 61 before the receiver's, and its 62 before the receiver's
    ∷ (at (pos 7200) (pos 1000) (one (pos 1000)), at minus1 (pos 1000) [], pos 10, refuses 61 0 1)
    ∷ (at (pos 0) (pos 1000) (one above), one above, pos 10, refuses 62 0 1)
    ∷ []

pub each_holds : AllHold settlements × AllHold refusals
unfolding AllHold settlements refusals law
each_holds = (
  (refl, (refl, (refl, (refl, (refl, (refl, (refl, (refl, (refl, (refl, tt)))))))))),
  (refl, (refl, (refl, (refl, (refl, (refl, (refl, (refl, (refl, (refl, (refl, (refl, (refl, (refl, (refl, tt))))))))))))))),
)
