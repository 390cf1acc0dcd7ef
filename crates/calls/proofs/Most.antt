-- The most rows that a derivation ever had: a work table with room for them has room for every step, and in one slice there were never more rows than
-- it takes. Without that room the replay ends with 12.
use Prim.Native.Nat.{ℕ, suc, ◌≤◌, ◌<◌, max}
use native.Mathlib.Omega.{arith}
use mathlib.Core.Path.{◌≡◌, refl, ap, ◌∙◌}
use mathlib.Core.Bool.{Bool, true, false}
use mathlib.Core.List.{List, [], ◌∷◌}
use mathlib.Core.Option.{some}
use lib.ListN.{length}
use lib.Dec.{ltb}
use borrow.Author.Tests.{ltb-true, ltb-false, lt-ltb}
use Rattle.wcsp.specs.Row.{Row}
use Rattle.wcsp.specs.Entry.{Entry}
use Rattle.wcsp.specs.Resolve.{Pair, next_pair, resolve}
use Rattle.wcsp.proofs.NextPair.{next-permitted}
use Rattle.fields.specs.Entries.{FieldSizes, Entries}
use Rattle.stepping.specs.Step.{refusing, pair_word}
use Rattle.checker.specs.Replay.{replay_on, replay_word, replay_next, replay}
use Rattle.checker.proofs.Replaying.{Left, allowed-room}
use Rattle.stepping.proofs.Named.{next_named}
use Rattle.calls.specs.Calls.{Derives}
use Rattle.calls.specs.Derivation.{most_rows}
use Rattle.calls.proofs.Reaching.{Reaches, still, onward, next_left, next_found, word_replayed}

pub most_first : (ds : List ℕ) (rs : List Row) (ws : List ℕ) → length rs ≤ most_rows ds rs ws
unfolding most_rows
most_first ds rs [] = omega arith
most_first ds rs (w ∷ ws) = omega arith

module _ {ds : List ℕ} {es : List Entry} {cap : ℕ} (s : FieldSizes ds) (n : Entries ds 0 es) (small : cap ≤ 4096) where
  -- the rows behind the step on the next pair, by its word
  most_next : (rs : List Row) (pr : Pair) (ws : List ℕ) → next_pair ds rs ≡ some pr → length rs ≤ cap
      → most_rows ds rs (pair_word pr ∷ ws) ≡ max (length rs) (most_rows ds (resolve ds pr rs) ws)
  unfolding most_rows
  most_next rs pr ws e fits = let rest = ap (λ p. most_rows ds (resolve ds p rs) ws) (next_named ds s.most rs (omega (arith, fits, small)) pr e).1 in omega (arith, rest)

  pub derives_reaches : {rs rs' : List Row} {ws : List ℕ} → Derives ds rs ws rs' → most_rows ds rs ws ≤ cap → Reaches ds cap rs ws rs'
  derives_reaches Derives.stop m = still
  derives_reaches {rs} (Derives.step {ws = ws} pr e d) m =
      let first = most_first ds rs (pair_word pr ∷ ws) in
      let fits : length rs ≤ cap = omega arith in
      let q = most_next rs pr ws e fits in
      let rest : most_rows ds (resolve ds pr rs) ws ≤ cap = omega arith in
      onward pr e (let f = most_first ds (resolve ds pr rs) ws in omega arith) (derives_reaches d rest)

  pub reaches_most : {rs rs' : List Row} {ws : List ℕ} → length rs ≤ cap → Reaches ds cap rs ws rs' → most_rows ds rs ws ≤ cap
  unfolding most_rows
  reaches_most fits still = fits
  reaches_most {rs} fits (onward {ws = ws} pr e f a) = omega (arith, most_next rs pr ws e fits, reaches_most f a)

  -- ---- without room

  word_full : (rs : List Row) (pr : Pair) → Left ds es cap rs → next_pair ds rs ≡ some pr → cap < length (resolve ds pr rs)
      → replay_word ds cap rs (pair_word pr) ≡ refusing 12
  unfolding replay_word replay_on
  word_full rs pr l e f =
      ap (replay_on ds cap rs) (next_found s n small rs pr e l.fits)
      ∙ allowed-room n cap l.keeps pr (next-permitted ds rs pr e)
      ∙ rw (lt-ltb cap (length (resolve ds pr rs)) f)

  pub replay-full : {rs rs' : List Row} {ws : List ℕ} (k : ℕ) → Left ds es cap rs → Derives ds rs ws rs' → cap < most_rows ds rs ws
      → (replay ds cap rs k ws).number ≡ 12
  unfolding replay replay_next most_rows
  replay-full k l Derives.stop m = absurd (omega (arith, l.fits))
  replay-full {rs} k l (Derives.step {ws = ws} pr e d) m =
      go (ltb cap (length (resolve ds pr rs))) refl (λ fits. replay-full (suc k) (next_left pr l e fits) d (omega (arith, most_next rs pr ws e l.fits, l.fits)))
    where
      go : (b : Bool) → ltb cap (length (resolve ds pr rs)) ≡ b
          → (length (resolve ds pr rs) ≤ cap → (replay ds cap (resolve ds pr rs) (suc k) ws).number ≡ 12) → (replay ds cap rs k (pair_word pr ∷ ws)).number ≡ 12
      go true f later = rw (word_full rs pr l e (ltb-true cap (length (resolve ds pr rs)) f))
      go false f later = let fits = ltb-false cap (length (resolve ds pr rs)) f in rw (word_replayed s n small pr l e fits) (later fits)
