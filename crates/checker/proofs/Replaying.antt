-- A replay goes on only by permitted steps whose rows fit, so whatever step words it gets, the rows that it leaves keep sizes and entries and fit;
-- and since no weight of such rows is too great, it is stopped by 6 or 12 alone.
use Prim.Native.Nat.{ℕ, suc, ◌≤◌}
use native.Mathlib.Omega.{arith}
use mathlib.Core.Path.{◌≡◌, refl, sym, ap, subst}
use mathlib.Core.Bool.{Bool, true, false, ◌&&◌, cond}
use mathlib.Core.List.{List, [], ◌∷◌}
use mathlib.Core.Option.{Option, none, some}
use lib.ListN.{length, get_or}
use lib.Dec.{eqb, ltb}
use borrow.Author.Tests.{ltb-true, ltb-false, lt-ltb}
use Rattle.wcsp.specs.Row.{Row}
use Rattle.wcsp.specs.Entry.{Entry}
use Rattle.wcsp.specs.Rule.{permitted}
use Rattle.wcsp.specs.Resolve.{Pair, no_row, resolve, MayResolve}
use Rattle.wcsp.proofs.Lists.{and_left, and_right}
use Rattle.words.specs.Layout.{kind_of, step_variable_in, first_row_in, second_row_in}
use Rattle.fields.specs.Entries.{Entries}
use Rattle.table.specs.Layout.{capacity, table_words}
use Rattle.table.proofs.Own.{Held, held}
use Rattle.stepping.specs.Step.{Stepping, refusing, steps_to, allowed}
use Rattle.checker.specs.Replay.{permitted_pair, named_pair, replay_on, replay_word, Replayed, replay_next, replay}
use Rattle.checker.specs.Theorems.{CheckNumber, success, not_permitted, too_many}
use Rattle.checker.proofs.Kept.{Takes, Keeps, step_keeps, keeps_light, keeps_holdable}

-- ---- the pair that a word names

data PairView (ds : List ℕ) (rs : List Row) : Option Pair → Type 0 where
  no_pair : PairView ds rs none
  on_pair : {pr : Pair} → MayResolve ds rs pr → PairView ds rs (some pr)

module _ (ds : List ℕ) (rs : List Row) where
  pair_view : (pr : Pair) → PairView ds rs (permitted_pair ds rs pr)
  unfolding permitted_pair
  pair_view pr = go _ refl
    where
      known : Bool
      known = ltb pr.variable (length ds)

      ordered : Bool
      ordered = ltb pr.first pr.second

      in_table : Bool
      in_table = ltb pr.second (length rs)

      may : Bool
      may = permitted ds pr.variable (get_or rs pr.first no_row).signs (get_or rs pr.second no_row).signs

      go : (b : Bool) → (known && ordered && in_table && may) ≡ b → PairView ds rs (cond b (some pr) none)
      go true e =
          let three = and_left (known && ordered && in_table) may e in
          let two = and_left (known && ordered) in_table three in
          on_pair
          (record {
            ordered = ltb-true pr.first pr.second (and_right known ordered two);
            in_table = ltb-true pr.second (length rs) (and_right (known && ordered) in_table three);
            known = ltb-true pr.variable (length ds) (and_left known ordered two);
            may = and_right (known && ordered && in_table) may e;
          })
      go false e = no_pair

  named_view : (w : ℕ) → PairView ds rs (named_pair ds rs w)
  unfolding named_pair
  named_view w = go (eqb (kind_of w) 7)
    where
      pr : Pair
      pr = record { variable = step_variable_in w; first = first_row_in w; second = second_row_in w }

      go : (b : Bool) → PairView ds rs (cond b (permitted_pair ds rs pr) none)
      go true = pair_view pr
      go false = no_pair

  -- a named pair is permitted
  pub named_permitted : (w : ℕ) (pr : Pair) → named_pair ds rs w ≡ some pr → MayResolve ds rs pr
  named_permitted w pr e = go _ (named_view w) e
    where
      pair_in_lem : Option Pair → Pair
      pair_in_lem (some p) = p
      pair_in_lem none = pr

      go : (o : Option Pair) → PairView ds rs o → o ≡ some pr → MayResolve ds rs pr
      go none no_pair q = absurd (let z : ◌≡◌ {A = ℕ} 0 1 = cc in omega arith)
      go (some p) (on_pair m) q = subst (MayResolve ds rs) (ap pair_in_lem q) m

  -- a pair that passes the test is permitted
  pub permitted_told : (pr p : Pair) → permitted_pair ds rs pr ≡ some p → MayResolve ds rs pr
  unfolding permitted_pair
  permitted_told pr p e = subst (MayResolve ds rs) (sym (is e)) (go _ (pair_view pr) e)
    where
      test : Bool
      test =
          ltb pr.variable (length ds) && ltb pr.first pr.second && ltb pr.second (length rs)
          && permitted ds pr.variable (get_or rs pr.first no_row).signs (get_or rs pr.second no_row).signs

      pair_in_lem : Option Pair → Pair
      pair_in_lem (some x) = x
      pair_in_lem none = pr

      same : (b : Bool) → cond b (some pr) none ≡ some p → pr ≡ p
      same true q = ap pair_in_lem q
      same false q = ap pair_in_lem q

      is : permitted_pair ds rs pr ≡ some p → pr ≡ p
      is q = same test q

      go : (o : Option Pair) → PairView ds rs o → o ≡ some p → MayResolve ds rs p
      go none no_pair q = absurd (let z : ◌≡◌ {A = ℕ} 0 1 = cc in omega arith)
      go (some x) (on_pair m) q = subst (MayResolve ds rs) (ap pair_in_lem q) m

  -- a permitted pair passes the test
  pub permitted_passes : (pr : Pair) → MayResolve ds rs pr → permitted_pair ds rs pr ≡ some pr
  unfolding permitted_pair
  permitted_passes pr m =
      rw (lt-ltb pr.variable (length ds) m.known, lt-ltb pr.first pr.second m.ordered, lt-ltb pr.second (length rs) m.in_table, m.may)

-- ---- what a word comes to

pub record Left (ds : List ℕ) (es : List Entry) (cap : ℕ) (rs : List Row) : Type 0 where
  pub keeps : Keeps ds es rs
  pub fits : length rs ≤ cap

-- a slice in which such rows are written
pub left_held : {len : ℕ} {ds : List ℕ} {es : List Entry} → Takes len ds es → {t : List ℕ} {rs : List Row} → Left ds es (capacity len (length ds)) rs
    → t ≡ table_words len ds rs → Held t len ds rs
left_held {len} {ds} a {t} {rs} l e = held t len ds rs (keeps_holdable l.keeps a l.fits) e

-- what a replay comes to: rows that keep sizes and entries and fit, and a number of a check
pub record Ended (ds : List ℕ) (es : List Entry) (cap : ℕ) (done : Replayed) : Type 0 where
  pub left : Left ds es cap done.rows
  pub number : CheckNumber done.number

data WordView (ds : List ℕ) (cap : ℕ) (rs : List Row) : Stepping → Type 0 where
  refused : {k : ℕ} → CheckNumber k → WordView ds cap rs (refusing k)
  made : {pr : Pair} → MayResolve ds rs pr → length (resolve ds pr rs) ≤ cap → WordView ds cap rs (steps_to pr (resolve ds pr rs))

module _ {ds : List ℕ} {es : List Entry} (n : Entries ds 0 es) (cap : ℕ) where
  module _ {rs : List Row} (k : Keeps ds es rs) where
    -- 11 never: only the room is asked for
    pub allowed-room : (pr : Pair) → MayResolve ds rs pr
        → allowed cap pr (resolve ds pr rs)
        ≡ cond (ltb cap (length (resolve ds pr rs))) (refusing 12) (steps_to pr (resolve ds pr rs))
    unfolding allowed
    allowed-room pr m =
        let rs' = resolve ds pr rs in
        rw (keeps_light (step_keeps k pr m) n)

    allowed_view : (pr : Pair) → MayResolve ds rs pr
        → WordView ds cap rs (allowed cap pr (resolve ds pr rs))
    allowed_view pr m = rw (allowed-room pr m) (go (ltb cap (length rs')) refl)
      where
        rs' : List Row
        rs' = resolve ds pr rs

        go : (b : Bool) → ltb cap (length rs') ≡ b → WordView ds cap rs (cond b (refusing 12) (steps_to pr rs'))
        go true e = refused too_many
        go false e = made m (ltb-false cap (length rs') e)

    word_view : (w : ℕ) → WordView ds cap rs (replay_word ds cap rs w)
    unfolding replay_word replay_on
    word_view w = go _ (named_view ds rs w)
      where
        go : (o : Option Pair) → PairView ds rs o
            → WordView ds cap rs (replay_on ds cap rs o)
        go none no_pair = refused not_permitted
        go (some pr) (on_pair m) = allowed_view pr m

  -- ---- the whole replay

  pub replay_ended : (ws : List ℕ) (rs : List Row) (k : ℕ) → Left ds es cap rs → Ended ds es cap (replay ds cap rs k ws)
  unfolding replay replay_next
  replay_ended [] rs k l = record { left = l; number = success }
  replay_ended (w ∷ ws) rs k l = go _ (word_view l.keeps w) (λ rs' l'. replay_ended ws rs' (suc k) l')
    where
      go : (s : Stepping) → WordView ds cap rs s
          → ((rs' : List Row) → Left ds es cap rs' → Ended ds es cap (replay ds cap rs' (suc k) ws))
          → Ended ds es cap
          (replay_next (λ number. record { number = number; steps = k; rows = rs })
          (λ rs'. replay ds cap rs' (suc k) ws) s)
      go (refusing number) (refused f) ih = record { left = l; number = f }
      go (steps_to pr rs') (made m f) ih =
          ih rs' (record { keeps = step_keeps l.keeps pr m; fits = f })
