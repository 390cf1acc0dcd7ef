-- Rows that keep an instance's sizes and entries: valid, with the cost as falsified weight. The encoding's rows do, and every permitted step keeps it
-- so. No weight of such rows is too great, since some assignment costs at least as much; so a slice with room holds them.
use Prim.Native.Nat.{ℕ, ◌+◌, ◌≤◌, ◌<◌}
use native.Mathlib.Omega.{arith}
use mathlib.Core.Path.{◌≡◌, ◌∙◌}
use mathlib.Core.Bool.{false}
use mathlib.Core.List.{List}
use lib.ListN.{length, get_or}
use Rattle.wcsp.specs.Clause.{InRange}
use Rattle.wcsp.specs.Row.{Row, falsified, empty_weight, ValidRows}
use Rattle.wcsp.specs.Entry.{Entry, cost, encoded}
use Rattle.wcsp.specs.Resolve.{Pair, no_row, resolve, MayResolve}
use Rattle.wcsp.specs.Theorems.{Witnessed}
use Rattle.wcsp.proofs.Validity.{step_valid}
use Rattle.wcsp.proofs.Conservation.{conservation}
use Rattle.wcsp.proofs.Encoding.{encoding_valid, encoding_exact}
use Rattle.wcsp.proofs.EmptyRow.{empty_below}
use Rattle.wcsp.proofs.Weights.{weights_witnessed}
use Rattle.wcsp.proofs.TooHeavy.{light}
use Rattle.fields.specs.Entries.{FieldSizes, Entries}
use Rattle.fields.proofs.Costs.{entries_costs}
use Rattle.rows.specs.Raw.{max_weight}
use Rattle.table.specs.Layout.{capacity, too_heavy}
use Rattle.table.specs.Theorems.{Holdable}
use Rattle.checker.proofs.Instances.{head_given}

-- sizes and entries of a field, and a slice with room for head, sizes and count
pub record Takes (len : ℕ) (ds : List ℕ) (es : List Entry) : Type 0 where
  pub sizes : FieldSizes ds
  pub entries : Entries ds 0 es
  pub room : length ds + 2 ≤ len

pub record Keeps (ds : List ℕ) (es : List Entry) (rs : List Row) : Type 0 where
  pub valid : ValidRows ds rs
  pub weights : (p : List ℕ) → InRange ds p → falsified p rs ≡ cost es p

module _ {ds : List ℕ} {es : List Entry} where
  pub encoded_keeps : FieldSizes ds → Entries ds 0 es → Keeps ds es (encoded ds es)
  encoded_keeps s n =
      record {
        valid = encoding_valid ds es s.positive n.well_formed;
        weights = λ p r. encoding_exact ds es p n.well_formed r;
      }

  module _ {rs : List Row} (k : Keeps ds es rs) where
    pub step_keeps : (pr : Pair) → MayResolve ds rs pr → Keeps ds es (resolve ds pr rs)
    step_keeps pr m =
        record {
          valid = step_valid ds rs pr k.valid m;
          weights = λ q r. conservation ds rs pr q k.valid m r ∙ k.weights q r;
        }

    pub keeps_below : (p : List ℕ) → InRange ds p → empty_weight (length ds) rs ≤ cost es p
    keeps_below p r = omega (arith, empty_below ds rs p r, k.weights p r)

    pub keeps_light : Entries ds 0 es → too_heavy rs ≡ false
    keeps_light n = light max_weight rs (λ i h. small i h)
      where
        small : (i : ℕ) → i < length rs → (get_or rs i no_row).weight ≤ max_weight
        small i h =
            let w : Witnessed ds rs (get_or rs i no_row).weight = weights_witnessed ds rs i k.valid h in
            omega (arith, w.at_least, k.weights w.assignment w.in_range, entries_costs n w.assignment)

    pub keeps_holdable : {len : ℕ} → Takes len ds es → length rs ≤ capacity len (length ds) → Holdable len ds rs
    keeps_holdable a fits =
        record {
          head = head_given a.sizes;
          few = a.sizes.most;
          sizes = a.sizes.each;
          room = a.room;
          fits = fits;
          valid = k.valid;
          light = keeps_light a.entries;
        }
