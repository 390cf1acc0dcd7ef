-- A valid table's words are those of its sizes and rows, and what is written for sizes and rows is valid and reads back, in any form of tables.
-- Both ways go through the table taken apart: its head, its sizes, its count, and what stands behind.
use Prim.Native.Nat.{ℕ, suc, ◌+◌, ◌-◌, ◌*◌, ◌/◌, ◌<◌, ◌≤◌}
use native.Mathlib.Nat.{mul-le-mul_left, mul-div-le}
use native.Mathlib.Omega.{arith}
use mathlib.Core.Path.{◌≡◌, refl, sym, ap, ap₂, ◌∙◌, subst}
use mathlib.Core.Bool.{true, false, ◌&&◌, false≢true}
use mathlib.Core.List.{List, [], ◌∷◌, ◌++◌, map}
use mathlib.Core.Option.{Option, none, some}
use lib.ListN.{length, get_or, take, drop, replicate, length-append, length-drop, length-replicate, length-map, take-append-drop}
use lib.Seq.{split_at, take_at, drop_at, get_or_at, drop-drop, length-take-le}
use lib.Dec.{leb}
use borrow.Author.Tests.{leb-true, le-leb}
use Rattle.wcsp.specs.Row.{Row}
use Rattle.wcsp.proofs.Lists.{and_left, and_right}
use Rattle.words.specs.Layout.{payload_of, head_word, size_word, count_word}
use Rattle.fields.specs.Limits.{max_variables}
use Rattle.fields.specs.Front.{head_in, headed, good_sizes}
use Rattle.fields.specs.Padding.{padded}
use Rattle.fields.proofs.Fronts.{head_some, good_long}
use Rattle.fields.proofs.Sizes.{sizes_each}
use Rattle.fields.proofs.Padding.{padded-length, sizes_padded}
use Rattle.rows.specs.Form.{Form, flat_in, raws_from_in}
use Rattle.rows.proofs.FormRows.{FormLaws, length_flat, flat_split, raws_from_flat}
use Rattle.table.specs.Form.{TableForm}
use Rattle.table.specs.Layout.{max_rows, rows_at, capacity_in, table_words_in}
use Rattle.table.specs.Meaning.{variables_of, table_sizes, domains, row_count, rows_from_in, table_rows_in}
use Rattle.table.specs.Valid.{is_count, valid_front, within_capacity, rows_in_range, no_two_equal, zero_past, rows_valid_in, distinct_rows, all_zero, valid_table_in}
use Rattle.table.specs.Twelve.{TwelveHoldableIn, TwelveIsCanonicalIn, TwelveWrittenIn}
use Rattle.table.specs.Carried.{AllCarriedIn, carried_valid, carried_light}
use Rattle.table.specs.WordKinds.{count_made, count_passes}
use Rattle.table.proofs.ValidParts.{sizes_made, sizes_pass, payloads_sizes, distinct_pass, zeros_made, zeros_pass}
use Rattle.table.specs.TableLaws.{TableLaws}
use Rattle.table.proofs.FormRows.{length-rows_from, rows_raws, carried_rows_from, rows_made, rows_valid_lem, rows_pass}

-- no table takes more rows than this, however long it is
pub capacity_small : (f : TableForm) (len n : ℕ) → capacity_in f len n ≤ max_rows
unfolding capacity_in
capacity_small f len n = omega arith

-- as many rows as the capacity have room
pub room_rows : (f : TableForm) (len n k : ℕ) → rows_at n ≤ len → k ≤ capacity_in f len n → rows_at n + f.rows.width * k ≤ len
unfolding capacity_in
room_rows f len n k h l =
    let q = (len - (n + 2)) / f.rows.width in
    let m : k ≤ q = omega arith in
    omega (arith, mul-le-mul_left f.rows.width m, mul-div-le (len - (n + 2)) f.rows.width)

-- ---- a table taken apart

pub record ApartIn (f : TableForm) (t : List ℕ) (len : ℕ) (ds : List ℕ) (rs : List Row) : Type 0 where
  pub room : rows_at (length ds) ≤ length t
  pub head : get_or t 0 0 ≡ head_word (length ds)
  pub sizes : take (length ds) (drop 1 t) ≡ map size_word ds
  pub count : get_or t (length ds + 1) 0 ≡ count_word (length rs)
  pub behind : drop (rows_at (length ds)) t
      ≡ flat_in f.rows (map f.raw_of rs) ++ replicate (len - (rows_at (length ds) + f.rows.width * length rs)) 0

split_words : (t : List ℕ) (n : ℕ) → n + 2 ≤ length t → t ≡ get_or t 0 0 ∷ (take n (drop 1 t) ++ (get_or t (n + 1) 0 ∷ drop (n + 2) t))
split_words [] n h = absurd (omega arith)
split_words (w ∷ t) n h =
    let a : n + 1 ≡ suc n = omega arith in
    let b : n + 2 ≡ suc (suc n) = omega arith in
    let l : n < length t = omega arith in
    rw (a, b) (ap (λ us. w ∷ us) (split_at t n 0 l))

module _ (h c : ℕ) (ss rest : List ℕ) where
  parts_length : length (h ∷ (ss ++ (c ∷ rest))) ≡ suc (length ss + suc (length rest))
  parts_length = ap suc (length-append ss (c ∷ rest))

  parts_behind : (n : ℕ) → length ss ≡ n → drop (n + 2) (h ∷ (ss ++ (c ∷ rest))) ≡ rest
  parts_behind n e =
      let b : n + 2 ≡ suc (n + 1) = omega arith in
      rw b (sym (drop-drop 1 n (ss ++ (c ∷ rest))) ∙ ap (λ l. drop 1 l) (drop_at ss (c ∷ rest) n e))

pub put_together : {f : TableForm} (t : List ℕ) (len : ℕ) (ds : List ℕ) (rs : List Row) → ApartIn f t len ds rs → t ≡ table_words_in f len ds rs
unfolding table_words_in
put_together t len ds rs p =
    let h = p.head in
    let s = p.sizes in
    let c = p.count in
    let b = p.behind in
    split_words t (length ds) p.room ∙ λ i. h i ∷ (s i ++ (c i ∷ b i))

module _ (f : TableForm) (len : ℕ) (ds : List ℕ) (rs : List Row) where
  -- the words of the rows, and the zeros behind them
  abbrev back : List ℕ
  back = flat_in f.rows (map f.raw_of rs) ++ replicate (len - (rows_at (length ds) + f.rows.width * length rs)) 0

  words_apart : ApartIn f (table_words_in f len ds rs) len ds rs
  unfolding table_words_in
  words_apart =
      let a : length ds + 1 ≡ suc (length ds) = omega arith in
      let m = length-map ds size_word in
      record {
        room = omega (arith, parts_length (head_word (length ds)) (count_word (length rs)) (map size_word ds) back);
        head = refl;
        sizes = take_at (map size_word ds) (count_word (length rs) ∷ back) (length ds) m;
        count = rw a (get_or_at (map size_word ds) (count_word (length rs)) back 0 (length ds) m);
        behind = parts_behind (head_word (length ds)) (count_word (length rs)) (map size_word ds) back (length ds) m;
      }

pub take_apart : {f : TableForm} (t : List ℕ) (len : ℕ) (ds : List ℕ) (rs : List Row) → t ≡ table_words_in f len ds rs → ApartIn f t len ds rs
take_apart {f} t len ds rs e = rw e (words_apart f len ds rs)

pub length_words : (f : TableForm) → FormLaws f.rows → (len : ℕ) (ds : List ℕ) (rs : List Row) → rows_at (length ds) + f.rows.width * length rs ≤ len
    → length (table_words_in f len ds rs) ≡ len
unfolding table_words_in
length_words f law len ds rs h =
    let rows = map f.raw_of rs in
    let m = length-map ds size_word in
    let n = ap (λ k. f.rows.width * k) (length-map rs f.raw_of) in
    let l = length_flat f.rows law rows in
    let z = length-replicate {A = ℕ} (len - (length ds + 2 + f.rows.width * length rs)) 0 in
    let b = length-append (flat_in f.rows rows) (replicate (len - (length ds + 2 + f.rows.width * length rs)) 0) in
    parts_length (head_word (length ds)) (count_word (length rs)) (map size_word ds) (back f len ds rs) ∙ omega arith

-- ---- valid, so canonical

-- what the tests of a table say
pub record PassedIn (f : TableForm) (t : List ℕ) : Type 0 where
  pub given : head_in (get_or t 0 0) ≡ some (variables_of t)
  pub front : valid_front t (variables_of t) ≡ true
  pub head : get_or t 0 0 ≡ head_word (variables_of t)
  pub few : variables_of t ≤ max_variables
  pub room : rows_at (variables_of t) ≤ length t
  pub stations : good_sizes (variables_of t) (drop 1 t) ≡ true
  pub count : get_or t (variables_of t + 1) 0 ≡ count_word (row_count t)
  pub fits : row_count t ≤ capacity_in f (length t) (variables_of t)
  pub rows : rows_valid_in f (domains t) (row_count t) (drop (rows_at (variables_of t)) t) ≡ true
  pub distinct : distinct_rows (table_rows_in f t) ≡ true
  pub zeros : all_zero (drop (rows_at (variables_of t) + f.rows.width * row_count t) t) ≡ true

pub passed : (f : TableForm) (t : List ℕ) → valid_table_in f t ≡ true → PassedIn f t
unfolding valid_table_in headed
passed f t e = go (head_in (get_or t 0 0)) refl e
  where
    tests : head_in (get_or t 0 0) ≡ some (variables_of t)
        → (valid_front t (variables_of t) && within_capacity f t (variables_of t) && rows_in_range f t (variables_of t) && no_two_equal f t && zero_past f t (variables_of t)) ≡ true
        → PassedIn f t
    tests q e =
        let n = variables_of t in
        let a = leb (n + 2) (length t) in
        let b = good_sizes n (drop 1 t) in
        let c = is_count (get_or t (n + 1) 0) in
        let d = within_capacity f t n in
        let g = rows_in_range f t n in
        let h = no_two_equal f t in
        let z = zero_past f t n in
        let e6 = and_left (a && b && c && d && g && h) z e in
        let e5 = and_left (a && b && c && d && g) h e6 in
        let e4 = and_left (a && b && c && d) g e5 in
        let e3 = and_left (a && b && c) d e4 in
        let e2 = and_left (a && b) c e3 in
        let s = head_some (get_or t 0 0) n q in
        let k = s.0 in
        record {
          given = q;
          front = e3;
          head = omega arith;
          few = s.2;
          room = leb-true (n + 2) (length t) (and_left a b e2);
          stations = and_right a b e2;
          count = count_made (get_or t (n + 1) 0) (and_right (a && b) c e3);
          fits = leb-true (row_count t) (capacity_in f (length t) n) (and_right (a && b && c) d e4);
          rows = and_right (a && b && c && d) g e5;
          distinct = and_right (a && b && c && d && g) h e6;
          zeros = and_right (a && b && c && d && g && h) z e;
        }

    go : (o : Option ℕ) → head_in (get_or t 0 0) ≡ o
        → headed false (λ n. valid_front t n && within_capacity f t n && rows_in_range f t n && no_two_equal f t && zero_past f t n) o ≡ true → PassedIn f t
    go none q e = absurd (false≢true e)
    go (some n) q e = let v = (head_some (get_or t 0 0) n q).1 in tests (rw (← v) at q) (rw (← v) at e)

module _ (f : TableForm) (law : TableLaws f) (t : List ℕ) (p : PassedIn f t) where
  pub length_sizes : length (table_sizes t) ≡ variables_of t
  unfolding table_sizes
  length_sizes =
      length-map (take (variables_of t) (drop 1 t)) payload_of
      ∙ length-take-le (variables_of t) (drop 1 t) (good_long (variables_of t) (drop 1 t) p.stations)

  pub length_rows : length (table_rows_in f t) ≡ row_count t
  unfolding table_rows_in
  length_rows = length-rows_from f (row_count t) (drop (variables_of t + 2) t)

  pub passed_rows : raws_from_in f.rows (row_count t) (drop (variables_of t + 2) t) ≡ map f.raw_of (table_rows_in f t)
  unfolding table_rows_in
  passed_rows = rows_made f law (domains t) (row_count t) (drop (variables_of t + 2) t) p.rows

  -- the rows end within the slice
  pub passed_room : rows_at (variables_of t) + f.rows.width * row_count t ≤ length t
  passed_room = room_rows f (length t) (variables_of t) (row_count t) p.room p.fits

  passed_behind : drop (variables_of t + 2) t
      ≡ flat_in f.rows (map f.raw_of (table_rows_in f t)) ++ replicate (length t - (variables_of t + 2 + f.rows.width * row_count t)) 0
  passed_behind =
      let n = variables_of t in
      let w = f.rows.width * row_count t in
      let whole = passed_room in
      let l : w ≤ length (drop (n + 2) t) = simp length-drop (omega arith) in
      let z : drop (n + 2 + w) t ≡ replicate (length t - (n + 2 + w)) 0
      = zeros_made (drop (n + 2 + w) t) p.zeros ∙ ap (λ m. replicate m 0) (length-drop (n + 2 + w) t) in
      flat_split f.rows law.form (row_count t) (drop (n + 2) t) l
      ∙ ap₂ (λ rs ws. flat_in f.rows rs ++ ws) passed_rows (drop-drop w (n + 2) t ∙ z)

  pub passed_apart : ApartIn f t (length t) (table_sizes t) (table_rows_in f t)
  unfolding table_sizes
  passed_apart =
      let e = length_sizes in
      let g = length_rows in
      record {
        room = rw e p.room;
        head = rw e p.head;
        sizes = rw e (sizes_made (variables_of t) (drop 1 t) p.stations);
        count = rw (e, g) p.count;
        behind = rw (e, g) passed_behind;
      }

  passed_holdable : TwelveHoldableIn f (length t) (table_sizes t) (table_rows_in f t)
  unfolding table_sizes table_rows_in domains
  passed_holdable =
      let e = length_sizes in
      let g = length_rows in
      let few : length (table_sizes t) ≤ max_variables = rw e p.few in
      record {
        head = rw (e, ← p.head) p.given;
        few = few;
        sizes = sizes_each (variables_of t) (drop 1 t) p.stations;
        room = rw e p.room;
        fits = rw (e, g) p.fits;
        valid = rows_valid_lem f law (domains t) (row_count t) (drop (variables_of t + 2) t) (padded-length (table_sizes t) few) p.rows p.distinct;
        light = carried_light (carried_rows_from f law (row_count t) (drop (variables_of t + 2) t));
      }

pub twelve_is_canonical : (f : TableForm) → TableLaws f → TwelveIsCanonicalIn f
twelve_is_canonical f law t e =
    let p = passed f t e in
    record { words = put_together t (length t) (table_sizes t) (table_rows_in f t) (passed_apart f law t p); holdable = passed_holdable f law t p }

-- ---- written, so valid and read back

pub holdable_carried : {f : TableForm} {len : ℕ} {ds : List ℕ} {rs : List Row} → TwelveHoldableIn f len ds rs → AllCarriedIn f.limit rs
holdable_carried {ds = ds} h = carried_valid (padded-length ds h.few) (sizes_padded h.sizes) h.valid h.light

read_flat : (f : Form) → FormLaws f → (rs : List f.Raw) (n : ℕ) (ws : List ℕ) → length rs ≡ n → raws_from_in f n (flat_in f rs ++ ws) ≡ rs
read_flat f law rs n ws e = rw (← e) (raws_from_flat f law rs ws)

module _ (f : TableForm) (law : TableLaws f) (t : List ℕ) (ds : List ℕ) (rs : List Row) (a : ApartIn f t (length t) ds rs) (h : TwelveHoldableIn f (length t) ds rs) where
  variables_back : variables_of t ≡ length ds
  variables_back = rw a.head (omega (arith, h.few))

  small : length rs < 268435456
  unfolding capacity_in
  small = omega (arith, h.fits)

  count_back : row_count t ≡ length rs
  count_back = rw (variables_back, a.count) (omega (arith, small))

  sizes_back : table_sizes t ≡ ds
  unfolding table_sizes
  sizes_back = rw (variables_back, a.sizes) (payloads_sizes h.sizes)

  rows_back : table_rows_in f t ≡ rs
  unfolding table_rows_in rows_from_in
  rows_back =
      rw (count_back, variables_back, a.behind)
      (ap (map f.row_of) (read_flat f.rows law.form (map f.raw_of rs) (length rs) (replicate (length t - (length ds + 2 + f.rows.width * length rs)) 0) (length-map rs f.raw_of))
      ∙ rows_raws f law (holdable_carried h))

  domains_back : domains t ≡ padded ds
  unfolding domains
  domains_back = ap padded sizes_back

  sizes_valid : good_sizes (length ds) (drop 1 t) ≡ true
  sizes_valid =
      rw (← take-append-drop (length ds) (drop 1 t), a.sizes) (sizes_pass h.sizes (drop (length ds) (drop 1 t)))

  zeros_valid : all_zero (drop (length ds + 2 + f.rows.width * length rs) t) ≡ true
  zeros_valid =
      let raws = map f.raw_of rs in
      let w = f.rows.width * length rs in
      let e : length (flat_in f.rows raws) ≡ w = length_flat f.rows law.form raws ∙ ap (λ n. f.rows.width * n) (length-map rs f.raw_of) in
      rw (← drop-drop w (length ds + 2) t, a.behind, drop_at (flat_in f.rows raws) _ w e)
      (zeros_pass (length t - (length ds + 2 + w)))

  valid_back : valid_table_in f t ≡ true
  unfolding valid_table_in headed
  valid_back =
      let n : head_in (get_or t 0 0) ≡ some (length ds) = rw a.head h.head in
      let c : is_count (get_or t (length ds + 1) 0) ≡ true = rw a.count (count_passes (length rs) small) in
      let r : rows_valid_in f (padded ds) (length rs) (drop (length ds + 2) t) ≡ true = rw a.behind (rows_pass f law _ h.valid (holdable_carried h)) in
      rw (n, count_back, domains_back, rows_back, le-leb (length ds + 2) (length t) h.room, sizes_valid, c, le-leb (length rs) (capacity_in f (length t) (length ds)) h.fits, r, distinct_pass h.valid, zeros_valid)

pub twelve_written : (f : TableForm) → TableLaws f → TwelveWrittenIn f
twelve_written f law len ds rs h =
    let t = table_words_in f len ds rs in
    let e = length_words f law.form len ds rs (room_rows f len (length ds) (length rs) h.room h.fits) in
    let a : ApartIn f t (length t) ds rs = subst (λ m. ApartIn f t m ds rs) (sym e) (words_apart f len ds rs) in
    let k : TwelveHoldableIn f (length t) ds rs = rw e h in
    record { long = e; valid = valid_back f law t ds rs a k; sizes = sizes_back f law t ds rs a k; rows = rows_back f law t ds rs a k }
