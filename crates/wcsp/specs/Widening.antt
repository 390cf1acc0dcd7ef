-- Further variables of one value each, which no clause names: what is said of a field's own variables is said of any wider table's too.
use Rattle.std.specs.Prelude.{ℕ, ◌+◌, ◌≤◌, ◌≡◌, ◌↔◌, false, List, [], ◌∷◌, ◌++◌, map, length, take, replicate}
use Rattle.wcsp.specs.Clause.{InRange}
use Rattle.wcsp.specs.Row.{Row, falsified, empty_weight, heavy, ValidRows}
use Rattle.wcsp.specs.Entry.{Entry, WellFormed, encoded}
use Rattle.wcsp.specs.Rule.{permitted}
use Rattle.wcsp.specs.Resolve.{Pair, next_pair, resolve, MayResolve, Steps, Replays}
use Rattle.wcsp.specs.Rebuild.{rebuilt_over, tail_weight}

-- the sizes with k more variables, of one value each
abbrev pub widened : ℕ → List ℕ → List ℕ
widened k ds = ds ++ replicate k 1

-- a clause, with no sign at any of them
abbrev pub wide : ℕ → List ℕ → List ℕ
wide k c = c ++ replicate k 0

-- an assignment, with its only value for each of them
abbrev pub wide_values : ℕ → List ℕ → List ℕ
wide_values k p = p ++ replicate k 0

abbrev pub wide_row : ℕ → Row → Row
wide_row k r = record { signs = wide k r.signs; weight = r.weight }

-- every row's clause widened
unfoldable pub wide_rows : ℕ → List Row → List Row
wide_rows k rs = map (wide_row k) rs

-- the first n signs of every row
unfoldable pub trimmed : ℕ → List Row → List Row
trimmed n rs = map (λ r. record { signs = take n r.signs; weight = r.weight }) rs

-- the clauses of the rows
abbrev pub clauses_of : List Row → List (List ℕ)
clauses_of rs = map (λ r. r.signs) rs

-- every clause has n signs
pub data Spanning (n : ℕ) : List (List ℕ) → Type 0 where
  nil_spanning : Spanning n []
  cons_spanning : {c : List ℕ} {cs : List (List ℕ)} → length c ≡ n → Spanning n cs → Spanning n (c ∷ cs)

-- rows are valid exactly if the widened rows are
abbrev pub WideValid : Type 0
WideValid = (k : ℕ) (ds : List ℕ) (rs : List Row) → ValidRows ds rs ↔ ValidRows (widened k ds) (wide_rows k rs)

-- every valid table over the widened sizes is valid rows of the field's own, widened, and they are found by trimming
abbrev pub WideTrims : Type 0
WideTrims = (k : ℕ) (ds : List ℕ) (rs : List Row) → ValidRows (widened k ds) rs → rs ≡ wide_rows k (trimmed (length ds) rs)

abbrev pub TrimmedValid : Type 0
TrimmedValid = (k : ℕ) (ds : List ℕ) (rs : List Row) → ValidRows (widened k ds) rs → ValidRows ds (trimmed (length ds) rs)

abbrev pub TrimmedWide : Type 0
TrimmedWide = (k n : ℕ) (rs : List Row) → Spanning n (clauses_of rs) → trimmed n (wide_rows k rs) ≡ rs

-- the same for assignments in range
abbrev pub WideInRange : Type 0
WideInRange = (k : ℕ) (ds p : List ℕ) → InRange ds p ↔ InRange (widened k ds) (wide_values k p)

abbrev pub WideTakes : Type 0
WideTakes = (k : ℕ) (ds q : List ℕ) → InRange (widened k ds) q → q ≡ wide_values k (take (length ds) q)

-- the encoding over the widened sizes is the encoding widened
abbrev pub WideEncoded : Type 0
WideEncoded = (k : ℕ) (ds : List ℕ) (es : List Entry) → WellFormed ds es → encoded (widened k ds) es ≡ wide_rows k (encoded ds es)

abbrev pub TrimmedEncoded : Type 0
TrimmedEncoded = (k : ℕ) (ds : List ℕ) (es : List Entry) → WellFormed ds es → trimmed (length ds) (encoded (widened k ds) es) ≡ encoded ds es

-- two clauses may be resolved on a variable exactly if the widened ones may, on a further variable never
abbrev pub WidePermitted : Type 0
WidePermitted = (k : ℕ) (ds : List ℕ) (s : ℕ) (x y : List ℕ) → length x ≡ length ds → length y ≡ length ds
    → permitted (widened k ds) s (wide k x) (wide k y) ≡ permitted ds s x y

abbrev pub NonePermitted : Type 0
NonePermitted = (ds : List ℕ) (s : ℕ) (x y : List ℕ) → length x ≤ s → permitted ds s x y ≡ false

-- rows over the widened sizes and the field's own rows say the same: next pair, permitted pairs, step, the assignment rebuilt over given values
-- from variable s on (over none with s the number of variables), weights
pub record Widens (k : ℕ) (ds : List ℕ) (own rows : List Row) : Type 0 where
  pub count : length rows ≡ length own
  pub heavy_as : (L : ℕ) → heavy L rows ≡ heavy L own
  pub empty : empty_weight (length (widened k ds)) rows ≡ empty_weight (length ds) own
  pub weights : (p : List ℕ) → length p ≡ length ds → falsified (wide_values k p) rows ≡ falsified p own
  pub next : next_pair (widened k ds) rows ≡ next_pair ds own
  pub may : (pr : Pair) → MayResolve (widened k ds) rows pr ↔ MayResolve ds own pr
  pub resolved : (pr : Pair) → MayResolve ds own pr → resolve (widened k ds) pr rows ≡ wide_rows k (resolve ds pr own)
  pub own_resolved : (pr : Pair) → MayResolve ds own pr → trimmed (length ds) (resolve (widened k ds) pr rows) ≡ resolve ds pr own
  pub own_completed : (s : ℕ) (q : List ℕ) → s + length q ≡ length ds
      → take (length ds) (rebuilt_over (widened k ds) rows s (wide_values k q)) ≡ rebuilt_over ds own s q
  pub tail : (s : ℕ) (q : List ℕ) → s + length q ≡ length ds → tail_weight s q rows ≡ tail_weight s q own

-- for valid rows of the field's own, widened, and for a valid table over the widened sizes, trimmed
abbrev pub Widening : Type 0
Widening = (k : ℕ) (ds : List ℕ) (own : List Row) → ValidRows ds own → Widens k ds own (wide_rows k own)

abbrev pub Trimming : Type 0
Trimming = (k : ℕ) (ds : List ℕ) (rows : List Row) → ValidRows (widened k ds) rows → Widens k ds (trimmed (length ds) rows) rows

-- what is done step by step over the widened sizes is done over the field's own, and the other way round
abbrev pub WideSteps : Type 0
WideSteps = (k : ℕ) (ds : List ℕ) (own own' : List Row) (m : ℕ) → ValidRows ds own → Steps ds own m own'
    → Steps (widened k ds) (wide_rows k own) m (wide_rows k own')

abbrev pub TrimmedSteps : Type 0
TrimmedSteps = (k : ℕ) (ds : List ℕ) (rows rows' : List Row) (m : ℕ) → ValidRows (widened k ds) rows → Steps (widened k ds) rows m rows'
    → Steps ds (trimmed (length ds) rows) m (trimmed (length ds) rows')

abbrev pub WideReplays : Type 0
WideReplays = (k : ℕ) (ds : List ℕ) (own own' : List Row) (prs : List Pair) → ValidRows ds own → Replays ds own prs own'
    → Replays (widened k ds) (wide_rows k own) prs (wide_rows k own')

abbrev pub TrimmedReplays : Type 0
TrimmedReplays = (k : ℕ) (ds : List ℕ) (rows rows' : List Row) (prs : List Pair) → ValidRows (widened k ds) rows
    → Replays (widened k ds) rows prs rows' → Replays ds (trimmed (length ds) rows) prs (trimmed (length ds) rows')
