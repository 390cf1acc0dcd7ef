-- What is proved of the definitions: each statement has a name here and its proof in proofs/, under that name with a small first letter.
use Rattle.std.specs.Prelude.{ℕ, zero, ◌+◌, ◌<◌, ◌≤◌, ◌≡◌, ◌⊎◌, ◌↔◌, true, false, cond, List, [], ◌∷◌, length, get_or, drop}
use Rattle.std.proofs.Math.Option.{none, some}
use Rattle.wcsp.specs.Clause.{InRange, ValidClause, AllPositive, falsifies, same, bucket}
use Rattle.wcsp.specs.Row.{Row, falsified, empty_weight, ValidRows}
use Rattle.wcsp.specs.Entry.{Entry, WellFormed, cost, encoded, LeastCost}
use Rattle.wcsp.specs.Rule.{conclusions, permitted}
use Rattle.wcsp.specs.Resolve.{Pair, no_row, next_pair, resolve, MayResolve, Steps, Replays}
use Rattle.wcsp.specs.Rebuild.{rebuilt, rebuilt_over, tail_weight}
use Rattle.wcsp.specs.Bound.{potential, row_bound, step_bound}

-- how many of the clauses the assignment falsifies
unfoldable pub falsified_count : List ℕ → List (List ℕ) → ℕ
falsified_count p [] = zero
falsified_count p (c ∷ cs) = cond (falsifies p c) 1 0 + falsified_count p cs

-- soundness of the rule at any variable: premises and conclusions are falsified equally often
abbrev pub Soundness : Type 0
Soundness = (ds : List ℕ) (s : ℕ) (x y p : List ℕ) → ValidClause ds x → ValidClause ds y → InRange ds p
    → falsified_count p (conclusions ds s x y) ≡ falsified_count p (x ∷ y ∷ [])

-- a step on any permitted pair conserves the falsified weight of every assignment
abbrev pub Conservation : Type 0
Conservation = (ds : List ℕ) (rs : List Row) (pr : Pair) (p : List ℕ) → ValidRows ds rs → MayResolve ds rs pr → InRange ds p
    → falsified p (resolve ds pr rs) ≡ falsified p rs

-- a step on any permitted pair keeps the rows valid
abbrev pub StepValid : Type 0
StepValid = (ds : List ℕ) (rs : List Row) (pr : Pair) → ValidRows ds rs → MayResolve ds rs pr → ValidRows ds (resolve ds pr rs)

-- any list of permitted pairs conserves the falsified weight and keeps the rows valid
pub record Conserved (ds : List ℕ) (rs rs' : List Row) : Type 0 where
  pub valid : ValidRows ds rs'
  pub weights : (p : List ℕ) → InRange ds p → falsified p rs' ≡ falsified p rs

abbrev pub ReplayConserves : Type 0
ReplayConserves = (ds : List ℕ) (rs rs' : List Row) (prs : List Pair) → ValidRows ds rs → Replays ds rs prs rs' → Conserved ds rs rs'

-- the encoding's rows are valid, and their falsified weight is the cost, for every assignment in range
abbrev pub EncodingValid : Type 0
EncodingValid = (ds : List ℕ) (es : List Entry) → AllPositive ds → WellFormed ds es → ValidRows ds (encoded ds es)

abbrev pub EncodingExact : Type 0
EncodingExact = (ds : List ℕ) (es : List Entry) (p : List ℕ) → WellFormed ds es → InRange ds p → falsified p (encoded ds es) ≡ cost es p

-- c differs from each of the clauses; the clauses differ pairwise
pub data Apart (c : List ℕ) : List (List ℕ) → Type 0 where
  nil_apart : Apart c []
  cons_apart : {d : List ℕ} {cs : List (List ℕ)} → same c d ≡ false → Apart c cs → Apart c (d ∷ cs)

pub data Distinct : List (List ℕ) → Type 0 where
  nil_distinct : Distinct []
  cons_distinct : {c : List ℕ} {cs : List (List ℕ)} → Apart c cs → Distinct cs → Distinct (c ∷ cs)

-- the conclusions of a permitted pair differ from both premises and from each other
abbrev pub DistinctConclusions : Type 0
DistinctConclusions = (ds : List ℕ) (s : ℕ) (x y : List ℕ) → ValidClause ds x → ValidClause ds y → s < length ds
    → permitted ds s x y ≡ true → Distinct (x ∷ y ∷ conclusions ds s x y)

-- a pair among the rows of its variable's bucket that may be resolved on it
pub record CandidatePair (ds : List ℕ) (rs : List Row) (pr : Pair) : Type 0 where
  pub pair : MayResolve ds rs pr
  pub first_in : bucket (get_or rs pr.first no_row).signs ≡ pr.variable
  pub second_in : bucket (get_or rs pr.second no_row).signs ≡ pr.variable

-- the order of document 01: lowest variable, then lowest first row, then lowest second row
abbrev pub NotAfter : Pair → Pair → Type 0
NotAfter a b = (a.variable < b.variable) ⊎ ((a.variable ≡ b.variable) × ((a.first < b.first) ⊎ ((a.first ≡ b.first) × (a.second ≤ b.second))))

pub record LeastCandidate (ds : List ℕ) (rs : List Row) (pr : Pair) : Type 0 where
  pub is : CandidatePair ds rs pr
  pub least : (other : Pair) → CandidatePair ds rs other → NotAfter pr other

-- the next pair is the least candidate, and there is none exactly if there is no candidate
abbrev pub NextIsLeast : Type 0
NextIsLeast = (ds : List ℕ) (rs : List Row) (pr : Pair) → (next_pair ds rs ≡ some pr) ↔ LeastCandidate ds rs pr

abbrev pub NoneLeft : Type 0
NoneLeft = (ds : List ℕ) (rs : List Row) → (next_pair ds rs ≡ none) ↔ ((pr : Pair) → CandidatePair ds rs pr → ⊥)

-- every step on the next pair lowers the potential, so no sequence of steps is longer than a number computed from the rows,
-- and none from an encoding is longer than one computed from sizes and costs.
-- Proof idea: an assignment that falsified both premises now falsifies meet and union, of a lower grade together since the gain is concave;
-- one that falsified one of them, a clause of its grade or the meet, of a lower one. And some assignment falsifies the meet.
abbrev pub PotentialFalls : Type 0
PotentialFalls = (ds : List ℕ) (rs : List Row) (pr : Pair) → ValidRows ds rs → next_pair ds rs ≡ some pr
    → potential ds (resolve ds pr rs) < potential ds rs

abbrev pub StepsBounded : Type 0
StepsBounded = (ds : List ℕ) (rs rs' : List Row) (k : ℕ) → ValidRows ds rs → Steps ds rs k rs' → k ≤ row_bound ds rs

abbrev pub InstanceBounded : Type 0
InstanceBounded = (ds : List ℕ) (es : List Entry) (rs' : List Row) (k : ℕ) → AllPositive ds → WellFormed ds es
    → Steps ds (encoded ds es) k rs' → k ≤ step_bound ds es

-- the empty row's weight is at most the falsified weight of every assignment, saturated or not
abbrev pub EmptyBelow : Type 0
EmptyBelow = (ds : List ℕ) (rs : List Row) (p : List ℕ) → InRange ds p → empty_weight (length ds) rs ≤ falsified p rs

-- some assignment falsifies at least the weight w
pub record Witnessed (ds : List ℕ) (rs : List Row) (w : ℕ) : Type 0 where
  pub assignment : List ℕ
  pub in_range : InRange ds assignment
  pub at_least : w ≤ falsified assignment rs

abbrev pub WeightsWitnessed : Type 0
WeightsWitnessed = (ds : List ℕ) (rs : List Row) (i : ℕ) → ValidRows ds rs → i < length rs → Witnessed ds rs (get_or rs i no_row).weight

-- the rebuilt assignment over the values q of the variables from k on: in range, agreeing with q, satisfying every row of the buckets
-- below k, falsifying exactly the weight of the other rows that q falsifies, and no dearer than any assignment that agrees with q
pub record Completes (ds : List ℕ) (rs : List Row) (k : ℕ) (q : List ℕ) : Type 0 where
  pub in_range : InRange ds (rebuilt_over ds rs k q)
  pub agrees : drop k (rebuilt_over ds rs k q) ≡ q
  pub satisfies : (i : ℕ) → i < length rs → bucket (get_or rs i no_row).signs < k
      → falsifies (rebuilt_over ds rs k q) (get_or rs i no_row).signs ≡ false
  pub exact : falsified (rebuilt_over ds rs k q) rs ≡ tail_weight k q rs
  pub cheapest : (p : List ℕ) → InRange ds p → drop k p ≡ q → falsified (rebuilt_over ds rs k q) rs ≤ falsified p rs

-- completeness of saturated rows (document 000, Definition 19.13 and Figure 19.2), for every k and every choice from variable k on.
-- Proof idea: two rows of a bucket that the higher values falsify do not clash there, so their signs nest, or they would be a pair;
-- signs that nest pairwise meet in the least of them, which is not 0, so some value lies in all of them.
abbrev pub Completeness : Type 0
Completeness = (ds : List ℕ) (rs : List Row) (k : ℕ) (q : List ℕ) → AllPositive ds → ValidRows ds rs → next_pair ds rs ≡ none
    → k ≤ length ds → InRange (drop k ds) q → Completes ds rs k q

-- with no pair left, the rebuilt assignment is in range and falsifies exactly the empty row's weight, and none falsifies less
pub record Optimal (ds : List ℕ) (rs : List Row) : Type 0 where
  pub in_range : InRange ds (rebuilt ds rs)
  pub attained : falsified (rebuilt ds rs) rs ≡ empty_weight (length ds) rs
  pub least : (p : List ℕ) → InRange ds p → empty_weight (length ds) rs ≤ falsified p rs

abbrev pub Optimality : Type 0
Optimality = (ds : List ℕ) (rs : List Row) → AllPositive ds → ValidRows ds rs → next_pair ds rs ≡ none → Optimal ds rs

-- from the encoding of an instance, by any permitted steps, to rows with no pair left: the empty row's weight is the least cost
abbrev pub SaturatedIsLeast : Type 0
SaturatedIsLeast = (ds : List ℕ) (es : List Entry) (prs : List Pair) (rs' : List Row) → AllPositive ds → WellFormed ds es
    → Replays ds (encoded ds es) prs rs' → next_pair ds rs' ≡ none → LeastCost ds es (empty_weight (length ds) rs')

-- p has the values q of the variables from k on, its cost is m, and no assignment that has them costs less (document 02: completion)
pub record BestFrom (ds : List ℕ) (es : List Entry) (k : ℕ) (q p : List ℕ) (m : ℕ) : Type 0 where
  pub in_range : InRange ds p
  pub agrees : drop k p ≡ q
  pub attained : cost es p ≡ m
  pub least : (p' : List ℕ) → InRange ds p' → drop k p' ≡ q → m ≤ cost es p'

-- from the encoding of an instance, by any permitted steps, to rows with no pair left, for every k and every choice of the values from
-- variable k on: the falsified weight of the rows without variables below k is the least cost of any completion, and the assignment
-- rebuilt over these values has it
abbrev pub SaturatedCompletes : Type 0
SaturatedCompletes = (ds : List ℕ) (es : List Entry) (prs : List Pair) (rs' : List Row) (k : ℕ) (q : List ℕ) → AllPositive ds → WellFormed ds es
    → Replays ds (encoded ds es) prs rs' → next_pair ds rs' ≡ none → k ≤ length ds → InRange (drop k ds) q
    → BestFrom ds es k q (rebuilt_over ds rs' k q) (tail_weight k q rs')

-- with no value given, the weight of the rows without lower variables is the empty row's
abbrev pub TailOfNone : Type 0
TailOfNone = (ds : List ℕ) (rs : List Row) → ValidRows ds rs → tail_weight (length ds) [] rs ≡ empty_weight (length ds) rs
