-- Raw rows of a table of any form: a table taken apart is laid with the raw rows of its rows, and once other rows were written behind its front
-- and their number was set, it is the table of the same sizes with those rows.
use Prim.Native.Nat.{ℕ, suc, ◌+◌, ◌*◌, ◌≤◌}
use native.Mathlib.Omega.{arith}
use mathlib.Core.Path.{◌≡◌, refl, sym, ap, ◌∙◌}
use mathlib.Core.Logic.{◌≢◌}
use mathlib.Core.List.{List, [], ◌∷◌, map}
use lib.ListN.{length, get_or, take, drop, set, length-set, length-map}
use lib.Seq.{get_or-take, get_or-set_same, get_or-set_other, take-take, take-set-le, drop-set-add, drop-set-lt}
use Rattle.wcsp.specs.Row.{Row}
use Rattle.words.specs.Layout.{count_word}
use Rattle.rows.specs.Form.{LaidIn, LeftIn}
use Rattle.table.specs.Form.{TableForm}
use Rattle.table.specs.Layout.{rows_at, table_words_in}
use Rattle.table.proofs.FormTables.{ApartIn, put_together, take_apart}

pub laid_apart : (f : TableForm) (t : List ℕ) (ds : List ℕ) (rs : List Row) → ApartIn f t (length t) ds rs → rows_at (length ds) + f.rows.width * length rs ≤ length t
    → LaidIn f.rows t (rows_at (length ds)) (map f.raw_of rs)
laid_apart f t ds rs a h = let e = length-map rs f.raw_of in record { fits = rw e h; behind = rw e a.behind }

pub laid_words : (f : TableForm) (t : List ℕ) (ds : List ℕ) (rs : List Row) → t ≡ table_words_in f (length t) ds rs → rows_at (length ds) + f.rows.width * length rs ≤ length t
    → LaidIn f.rows t (rows_at (length ds)) (map f.raw_of rs)
laid_words f t ds rs e h = laid_apart f t ds rs (take_apart t (length t) ds rs e) h

-- ---- the number of rows set

inner : (n : ℕ) (l : List ℕ) → take n (drop 1 (take (n + 2) l)) ≡ take n (drop 1 l)
inner n l = let e : n + 2 ≡ suc (suc n) = omega arith in rw e (go l)
  where
    go : (l : List ℕ) → take n (drop 1 (take (suc (suc n)) l)) ≡ take n (drop 1 l)
    go [] = refl
    go (w ∷ l) = take-take n (suc n) l (omega arith)

module _ (f : TableForm) (t t' : List ℕ) (ds : List ℕ) (rs rs' : List Row) (e : t ≡ table_words_in f (length t) ds rs) (l : LeftIn f.rows t (rows_at (length ds)) t' (map f.raw_of rs')) where
  finished_apart : ApartIn f (set t' (length ds + 1) (count_word (length rs'))) (length t) ds rs'
  finished_apart =
      let n = length ds in
      let c = count_word (length rs') in
      let a = take_apart t (length t) ds rs e in
      let long = l.long in
      let room = a.room in
      let other : 0 ≢ n + 1 = omega arith in
      let next : n + 1 ≡ 1 + n = omega arith in
      let m = length-map rs' f.raw_of in
      record {
        room = rw (length-set t' (n + 1) c, long) room;
        head =
            get_or-set_other t' (n + 1) 0 c 0 other
            ∙ sym (get_or-take (n + 2) t' 0 0 (omega arith))
            ∙ ap (λ u. get_or u 0 0) l.front
            ∙ get_or-take (n + 2) t 0 0 (omega arith)
            ∙ a.head;
        sizes =
            ap (λ i. take n (drop 1 (set t' i c))) next
            ∙ ap (λ u. take n u) (drop-set-add 1 t' n c)
            ∙ take-set-le n (drop 1 t') n c (omega arith)
            ∙ sym (inner n t')
            ∙ ap (λ u. take n (drop 1 u)) l.front
            ∙ inner n t
            ∙ a.sizes;
        count = get_or-set_same t' (n + 1) c 0 (omega arith);
        behind = drop-set-lt (n + 2) t' (n + 1) c (omega arith) ∙ rw (← long, ← m) l.rows.behind;
      }

  pub finished : set t' (length ds + 1) (count_word (length rs')) ≡ table_words_in f (length t) ds rs'
  finished = put_together (set t' (length ds + 1) (count_word (length rs'))) (length t) ds rs' finished_apart
