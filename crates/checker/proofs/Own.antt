-- A replay on twelve signs is that on the table's own variables, widened: a step word names the same pairs, and no pair on a further variable.
use Prim.Native.Nat.{ℕ, suc}
use mathlib.Core.Path.{◌≡◌, refl, sym, ap, ◌∙◌}
use mathlib.Core.Bool.{cond}
use mathlib.Core.List.{List, [], ◌∷◌}
use mathlib.Core.Option.{Option, none, some}
use lib.Dec.{eqb}
use Rattle.wcsp.specs.Row.{Row, ValidRows}
use Rattle.wcsp.specs.Resolve.{Pair, resolve, MayResolve}
use Rattle.wcsp.specs.Widening.{widened, wide_rows}
use Rattle.wcsp.proofs.Validity.{step_valid}
use Rattle.wcsp.proofs.Widening.{widening}
use Rattle.words.specs.Layout.{kind_of, step_variable_in, first_row_in, second_row_in}
use Rattle.stepping.specs.Step.{Stepping, refusing, steps_to, allowed}
use Rattle.stepping.proofs.Verdicts.{Verdict, refused, made, verdict}
use Rattle.stepping.proofs.Wide.{wide_stepping, allowed-wide}
use Rattle.checker.specs.Replay.{permitted_pair, named_pair, replay_on, replay_word, Replayed, replay_next, replay}
use Rattle.checker.proofs.Replaying.{named_permitted, permitted_told, permitted_passes}

abbrev pub wide_replayed : ℕ → Replayed → Replayed
wide_replayed k r = record { number = r.number; steps = r.steps; rows = wide_rows k r.rows }

module _ (k cap : ℕ) (ds : List ℕ) where
  module _ (rs : List Row) (v : ValidRows ds rs) where
    permitted-wide : (pr : Pair) → permitted_pair (widened k ds) (wide_rows k rs) pr ≡ permitted_pair ds rs pr
    permitted-wide pr = go (permitted_pair ds rs pr) refl (permitted_pair (widened k ds) (wide_rows k rs) pr) refl
      where
        may : MayResolve (widened k ds) (wide_rows k rs) pr → MayResolve ds rs pr
        may = ((widening k ds rs v).may pr).0

        may_too : MayResolve ds rs pr → MayResolve (widened k ds) (wide_rows k rs) pr
        may_too = ((widening k ds rs v).may pr).1

        go : (o : Option Pair) → permitted_pair ds rs pr ≡ o → (w : Option Pair) → permitted_pair (widened k ds) (wide_rows k rs) pr ≡ w
            → permitted_pair (widened k ds) (wide_rows k rs) pr ≡ permitted_pair ds rs pr
        go none e none f = f ∙ sym e
        go none e (some p) f =
            permitted_passes (widened k ds) (wide_rows k rs) pr (permitted_told (widened k ds) (wide_rows k rs) pr p f)
            ∙ sym (permitted_passes ds rs pr (may (permitted_told (widened k ds) (wide_rows k rs) pr p f)))
        go (some p) e w f =
            permitted_passes (widened k ds) (wide_rows k rs) pr (may_too (permitted_told ds rs pr p e))
            ∙ sym (permitted_passes ds rs pr (permitted_told ds rs pr p e))

    named_wide : (w : ℕ) → named_pair (widened k ds) (wide_rows k rs) w ≡ named_pair ds rs w
    unfolding named_pair
    named_wide w =
        ap (λ o. cond (eqb (kind_of w) 7) o none) (permitted-wide (record { variable = step_variable_in w; first = first_row_in w; second = second_row_in w }))

    resolved : (pr : Pair) → MayResolve ds rs pr → resolve (widened k ds) pr (wide_rows k rs) ≡ wide_rows k (resolve ds pr rs)
    resolved pr m = (widening k ds rs v).resolved pr m

  pub replay-wide : (ws : List ℕ) (rs : List Row) (n : ℕ) → ValidRows ds rs
      → replay (widened k ds) cap (wide_rows k rs) n ws ≡ wide_replayed k (replay ds cap rs n ws)
  unfolding replay replay_word replay_on replay_next wide_stepping
  replay-wide [] rs n v = refl
  replay-wide (w ∷ ws) rs n v = rw (named_wide rs v w) (go (named_pair ds rs w) refl (λ rs' u. replay-wide ws rs' (suc n) u))
    where
      Later : Type 0
      Later = (rs' : List Row) → ValidRows ds rs'
          → replay (widened k ds) cap (wide_rows k rs') (suc n) ws ≡ wide_replayed k (replay ds cap rs' (suc n) ws)

      wide_next : Stepping → Replayed
      wide_next =
          replay_next (λ number. record { number = number; steps = n; rows = wide_rows k rs })
          (λ rs'. replay (widened k ds) cap rs' (suc n) ws)

      own_next : Stepping → Replayed
      own_next =
          replay_next (λ number. record { number = number; steps = n; rows = rs })
          (λ rs'. replay ds cap rs' (suc n) ws)

      stepped : (pr : Pair) → MayResolve ds rs pr → Later → (s : Stepping) → Verdict cap pr (resolve ds pr rs) s
          → wide_next (wide_stepping k s) ≡ wide_replayed k (own_next s)
      stepped pr m ih (refusing number) (refused x h) = refl
      stepped pr m ih (steps_to x y) (made h l) = ih (resolve ds pr rs) (step_valid ds rs pr v m)

      go : (o : Option Pair) → named_pair ds rs w ≡ o → Later
          → wide_next (replay_on (widened k ds) cap (wide_rows k rs) o) ≡ wide_replayed k (own_next (replay_on ds cap rs o))
      go none e ih = refl
      go (some pr) e ih =
          let m = named_permitted ds rs w pr e in
          ap (λ q. wide_next (allowed cap pr q)) (resolved rs v pr m)
          ∙ ap wide_next (allowed-wide k cap pr (resolve ds pr rs))
          ∙ stepped pr m ih (allowed cap pr (resolve ds pr rs)) (verdict cap pr (resolve ds pr rs))
