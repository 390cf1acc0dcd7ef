-- Steps on the next pair: what a list of calls makes of rows. They keep sizes and entries. Those whose rows all fit, as they do in one slice, are
-- replayed to the end, since the step word of every pair reads back.
use Prim.Native.Nat.{ℕ, suc, ◌+◌, ◌≤◌}
use native.Mathlib.Omega.{arith}
use mathlib.Core.Path.{◌≡◌, ap, ◌∙◌}
use mathlib.Core.List.{List, [], ◌∷◌, ◌++◌}
use mathlib.Core.Option.{some}
use lib.ListN.{length}
use borrow.Author.Tests.{eq-eqb, le-ltb}
use Rattle.wcsp.specs.Row.{Row}
use Rattle.wcsp.specs.Entry.{Entry}
use Rattle.wcsp.specs.Resolve.{Pair, next_pair, resolve, Steps}
use Rattle.wcsp.proofs.NextPair.{next-permitted}
use Rattle.words.specs.Layout.{kind_of}
use Rattle.fields.specs.Entries.{FieldSizes, Entries}
use Rattle.stepping.specs.Step.{steps_to, pair_word}
use Rattle.stepping.proofs.Named.{next_named}
use Rattle.checker.specs.Replay.{permitted_pair, named_pair, replay_on, replay_word, replay_next, replay}
use Rattle.checker.proofs.Kept.{Keeps, step_keeps}
use Rattle.checker.proofs.Replaying.{Left, allowed-room, permitted_passes}
use Rattle.calls.specs.Calls.{Derives}

-- ---- whether the rows fit or not

module _ {ds : List ℕ} where
  pub derives_append : {rs rs' rs'' : List Row} {ws vs : List ℕ} → Derives ds rs ws rs' → Derives ds rs' vs rs'' → Derives ds rs (ws ++ vs) rs''
  derives_append Derives.stop b = b
  derives_append (Derives.step pr e a) b = Derives.step pr e (derives_append a b)

  pub derives_steps : {rs rs' : List Row} {ws : List ℕ} → Derives ds rs ws rs' → Steps ds rs (length ws) rs'
  derives_steps Derives.stop = Steps.stop
  derives_steps (Derives.step pr e a) = Steps.step pr e (derives_steps a)

  pub derives_keeps : {es : List Entry} {rs rs' : List Row} {ws : List ℕ} → Keeps ds es rs → Derives ds rs ws rs' → Keeps ds es rs'
  derives_keeps k Derives.stop = k
  derives_keeps {rs = rs} k (Derives.step pr e a) = derives_keeps (step_keeps k pr (next-permitted ds rs pr e)) a

-- ---- where they all fit

pub data Reaches (ds : List ℕ) (cap : ℕ) : List Row → List ℕ → List Row → Type 0 where
  still : {rs : List Row} → Reaches ds cap rs [] rs
  onward : {rs rs' : List Row} {ws : List ℕ} (pr : Pair) → next_pair ds rs ≡ some pr → length (resolve ds pr rs) ≤ cap
      → Reaches ds cap (resolve ds pr rs) ws rs' → Reaches ds cap rs (pair_word pr ∷ ws) rs'

pub reaches_append : {ds : List ℕ} {cap : ℕ} {rs rs' rs'' : List Row} {ws vs : List ℕ} → Reaches ds cap rs ws rs'
    → Reaches ds cap rs' vs rs'' → Reaches ds cap rs (ws ++ vs) rs''
reaches_append still b = b
reaches_append (onward pr e f a) b = onward pr e f (reaches_append a b)

pub reaches_derives : {ds : List ℕ} {cap : ℕ} {rs rs' : List Row} {ws : List ℕ} → Reaches ds cap rs ws rs' → Derives ds rs ws rs'
reaches_derives still = Derives.stop
reaches_derives (onward pr e f a) = Derives.step pr e (reaches_derives a)

module _ {ds : List ℕ} {es : List Entry} {cap : ℕ} where
  -- one step on the next pair
  pub next_left : {rs : List Row} (pr : Pair) → Left ds es cap rs → next_pair ds rs ≡ some pr → length (resolve ds pr rs) ≤ cap
      → Left ds es cap (resolve ds pr rs)
  next_left {rs} pr l e f = record { keeps = step_keeps l.keeps pr (next-permitted ds rs pr e); fits = f }

  pub reaches_left : {rs rs' : List Row} {ws : List ℕ} → Left ds es cap rs → Reaches ds cap rs ws rs' → Left ds es cap rs'
  reaches_left l still = l
  reaches_left l (onward pr e f a) = reaches_left (next_left pr l e f) a

  module _ (s : FieldSizes ds) (n : Entries ds 0 es) (small : cap ≤ 4096) where
    -- the pair that its word names is the one that a replay finds
    pub next_found : (rs : List Row) (pr : Pair) → next_pair ds rs ≡ some pr → length rs ≤ cap → named_pair ds rs (pair_word pr) ≡ some pr
    unfolding named_pair
    next_found rs pr e fits =
        let (k, named) = next_named ds s.most rs (omega (arith, fits, small)) pr e in
        rw (eq-eqb (kind_of (pair_word pr)) 7 k) (ap (permitted_pair ds rs) named ∙ permitted_passes ds rs pr (next-permitted ds rs pr e))

    -- and that is replayed
    pub word_replayed : {rs : List Row} (pr : Pair) → Left ds es cap rs → next_pair ds rs ≡ some pr
        → length (resolve ds pr rs) ≤ cap
        → replay_word ds cap rs (pair_word pr) ≡ steps_to pr (resolve ds pr rs)
    unfolding replay_word replay_on
    word_replayed {rs} pr l e f =
        let m = next-permitted ds rs pr e in
        ap (replay_on ds cap rs) (next_found rs pr e l.fits)
        ∙ allowed-room n cap l.keeps pr m
        ∙ rw (le-ltb cap (length (resolve ds pr rs)) f)

    pub reaches_replayed : {rs rs' : List Row} {ws : List ℕ} (k : ℕ) → Left ds es cap rs → Reaches ds cap rs ws rs'
        → replay ds cap rs k ws ≡ record { number = 0; steps = k + length ws; rows = rs' }
    unfolding replay replay_next
    reaches_replayed k l still = rw (added k)
      where
        added : (n : ℕ) → n + 0 ≡ n
        added n = omega arith
    reaches_replayed k l (onward {ws = ws} pr e f a) =
        let later : suc k + length ws ≡ k + suc (length ws) = omega arith in
        rw (word_replayed pr l e f, ← later) (reaches_replayed (suc k) (next_left pr l e f) a)
