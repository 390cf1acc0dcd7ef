-- Tables of raw rows of any form: what LaidIn and LeftIn give and how one call's result meets the next one's demand, and what a row's words,
-- written at a row's place, leave.
use Prim.Native.Nat.{ℕ, zero, suc, ◌+◌, ◌-◌, ◌*◌, ◌≤◌, ◌<◌}
use native.Mathlib.Nat.{add_assoc, mul-le-mul_left}
use native.Mathlib.Omega.{arith}
use mathlib.Core.Path.{◌≡◌, refl, sym, ap, ◌∙◌}
use mathlib.Core.List.{List, [], ◌∷◌, ◌++◌, append_assoc, append-nil}
use lib.ListN.{length, get_or, take, drop, set, replicate, length-append, length-take, length-drop, length-set, length-replicate, replicate-append-replicate, drop_of_length-le}
use lib.Seq.{drop_at, take_at, take-append-le, drop-append-le, take-add, drop-drop, length-take-le, set_split, drop-cons, take_all}
use borrow.Rule.Slice.PartMut.{put_mid}
use Rattle.rows.specs.Form.{Form, flat_in, raws_from_in, LaidIn, LeftIn}
use Rattle.rows.proofs.FormRows.{FormLaws, length_flat, length-raws_from, raws_from_flat, flat_append, flat_cons, take_flat, drop_flat}

-- ---- one call after another

pub left_trans : {f : Form} {t : List ℕ} {base : ℕ} {t' t'' : List ℕ} {rs rs' : List f.Raw} → LeftIn f t base t' rs → LeftIn f t' base t'' rs' → LeftIn f t base t'' rs'
left_trans p q = record { long = q.long ∙ p.long; front = q.front ∙ p.front; rows = q.rows }

pub left_refl : {f : Form} {t : List ℕ} {base : ℕ} {rs : List f.Raw} → LaidIn f t base rs → LeftIn f t base t rs
left_refl l = record { long = refl; front = refl; rows = l }

module _ {f : Form} (law : FormLaws f) where
  -- the rows that a table is laid with are those that are read from it
  pub laid_raws : {t : List ℕ} {base : ℕ} {rs : List f.Raw} → LaidIn f t base rs → raws_from_in f (length rs) (drop base t) ≡ rs
  laid_raws {t} {base} {rs} l = rw l.behind (raws_from_flat f law rs _)

  -- the same of what a call has left, with the count given apart
  pub left_read : {t : List ℕ} {base : ℕ} {t' : List ℕ} {rs : List f.Raw} (count : ℕ) → length rs ≡ count → LeftIn f t base t' rs
      → raws_from_in f count (drop base t') ≡ rs
  left_read count e l = rw (← e) (laid_raws l.rows)

  -- what a call has left meets what the next one asks
  pub left_laid : {t : List ℕ} {base : ℕ} {t' : List ℕ} {rs : List f.Raw} (count : ℕ) → length rs ≡ count → LeftIn f t base t' rs
      → LaidIn f t' base (raws_from_in f count (drop base t'))
  left_laid count e l = rw (left_read count e l) l.rows

pub drop-replicate : (k n a : ℕ) → drop k (replicate n a) ≡ replicate (n - k) a
drop-replicate zero n a = let e : n ≡ n - 0 = omega arith in ap (λ m. replicate m a) e
drop-replicate (suc k) zero a = let e : 0 ≡ 0 - suc k = omega arith in ap (λ m. replicate m a) e
drop-replicate (suc k) (suc n) a = let e : n - k ≡ suc n - suc k = omega arith in drop-replicate k n a ∙ ap (λ m. replicate m a) e

-- ---- words written at place base + m: in length, in front of base, and from base on

module _ (t vs : List ℕ) (base m w : ℕ) (wide : length vs ≡ w) (fits : base + m + w ≤ length t) where
  written_long : length (take (base + m) t ++ (vs ++ drop (base + m + w) t)) ≡ length t
  written_long = simp (length-append, length-take, length-drop) (omega arith)

  split : take (base + m) t ++ (vs ++ drop (base + m + w) t) ≡ take base t ++ (take m (drop base t) ++ (vs ++ drop (m + w) (drop base t)))
  split = rw (take-add base m t, append_assoc, drop-drop (m + w) base t, add_assoc)

  front_length : length (take base t) ≡ base
  front_length = length-take-le base t (omega arith)

  written-front : take base (take (base + m) t ++ (vs ++ drop (base + m + w) t)) ≡ take base t
  written-front = rw split (take_at (take base t) _ base front_length)

  written_behind : drop base (take (base + m) t ++ (vs ++ drop (base + m + w) t)) ≡ take m (drop base t) ++ (vs ++ drop (m + w) (drop base t))
  written_behind = rw split (drop_at (take base t) _ base front_length)

module _ (f : Form) (law : FormLaws f) where
  -- a table that has got words at base + m is laid with rs, if those words make its rest the words of rs and zeros
  left_written : (t t' vs : List ℕ) (base m w : ℕ) (rs : List f.Raw) → length vs ≡ w → base + m + w ≤ length t
      → t' ≡ take (base + m) t ++ (vs ++ drop (base + m + w) t)
      → base + f.width * length rs ≤ length t
      → take m (drop base t) ++ (vs ++ drop (m + w) (drop base t)) ≡ flat_in f rs ++ replicate (length t - (base + f.width * length rs)) 0
      → LeftIn f t base t' rs
  left_written t t' vs base m w rs wide fits e room rest =
      record {
        long = long;
        front = rw e (written-front t vs base m w wide fits);
        rows = record { fits = rw long room; behind = rw (long, e) (written_behind t vs base m w wide fits ∙ rest) };
      }
    where
      long : length t' ≡ length t
      long = rw e (written_long t vs base m w wide fits)

  -- row i ends within the rows
  within : (rs : List f.Raw) (i : ℕ) → i < length rs → f.width * i + f.width ≤ f.width * length rs
  within rs i h = let p = mul-le-mul_left f.width h in omega arith

  -- ---- a row in the place of row i

  replaced : (rs : List f.Raw) (zs : List ℕ) (i : ℕ) (q : f.Raw) → i < length rs
      → take (f.width * i) (flat_in f rs ++ zs) ++ (f.words q ++ drop (f.width * i + f.width) (flat_in f rs ++ zs)) ≡ flat_in f (set rs i q) ++ zs
  replaced rs zs i q h =
      let l = length_flat f law rs in
      let p = within rs i h in
      let more : f.width * i + f.width ≡ f.width * suc i = omega arith in
      rw (
        more,
        take-append-le (f.width * i) (flat_in f rs) zs (omega arith),
        drop-append-le (f.width * suc i) (flat_in f rs) zs (omega arith),
        take_flat f law i rs,
        drop_flat f law (suc i) rs,
        set_split rs i q h,
        flat_append f (take i rs) (q ∷ drop (suc i) rs),
        flat_cons f q (drop (suc i) rs),
      )
      (simp append_assoc)

  pub row_replaced : (t t' : List ℕ) (base : ℕ) (rs : List f.Raw) (i : ℕ) (q : f.Raw) → LaidIn f t base rs → i < length rs
      → t' ≡ take (base + f.width * i) t ++ (f.words q ++ drop (base + f.width * i + f.width) t)
      → LeftIn f t base t' (set rs i q)
  row_replaced t t' base rs i q l h e =
      let fits = l.fits in
      let p = within rs i h in
      left_written t t' (f.words q) base (f.width * i) f.width (set rs i q) (law.length_words q) (omega arith) e
      (simp length-set fits)
      (rw (l.behind, length-set rs i q) (replaced rs _ i q h))

  -- ---- a row behind the last

  appended : (rs : List f.Raw) (n : ℕ) (q : f.Raw)
      → take (f.width * length rs) (flat_in f rs ++ replicate n 0) ++ (f.words q ++ drop (f.width * length rs + f.width) (flat_in f rs ++ replicate n 0))
      ≡ flat_in f (rs ++ (q ∷ [])) ++ replicate (n - f.width) 0
  unfolding flat_in
  appended rs n q =
      let l = length_flat f law rs in
      rw (
        take_at (flat_in f rs) (replicate n 0) (f.width * length rs) l,
        ← drop-drop f.width (f.width * length rs) (flat_in f rs ++ replicate n 0),
        drop_at (flat_in f rs) (replicate n 0) (f.width * length rs) l,
        drop-replicate f.width n 0,
        flat_append f rs (q ∷ []),
      )
      (simp (append-nil, append_assoc))

  pub row_appended : (t t' : List ℕ) (base : ℕ) (rs : List f.Raw) (q : f.Raw) → LaidIn f t base rs → base + f.width * length rs + f.width ≤ length t
      → t' ≡ take (base + f.width * length rs) t ++ (f.words q ++ drop (base + f.width * length rs + f.width) t)
      → LeftIn f t base t' (rs ++ (q ∷ []))
  row_appended t t' base rs q l room e =
      let n = ap (λ k. f.width * k) (length-append rs (q ∷ [])) in
      let longer : f.width * length (rs ++ (q ∷ [])) ≡ f.width * length rs + f.width = omega arith in
      let left : length t - (base + f.width * length rs) - f.width ≡ length t - (base + f.width * length (rs ++ (q ∷ []))) = omega arith in
      left_written t t' (f.words q) base (f.width * length rs) f.width (rs ++ (q ∷ [])) (law.length_words q) room e (omega arith)
      (rw l.behind (appended rs (length t - (base + f.width * length rs)) q ∙ ap (λ n. flat_in f (rs ++ (q ∷ [])) ++ replicate n 0) left))

  -- the same for a row written to the front of the part that starts at its place and goes to the end
  pub row_lent : (t : List ℕ) (base count : ℕ) (q : f.Raw) (part : List ℕ) → LaidIn f t base (raws_from_in f count (drop base t))
      → base + f.width * count + f.width ≤ length t
      → part ≡ f.words q ++ drop f.width (take (length t - (base + f.width * count)) (drop (base + f.width * count) t))
      → LeftIn f t base (take (base + f.width * count) t ++ (part ++ drop (length t - (base + f.width * count)) (drop (base + f.width * count) t)))
      (raws_from_in f count (drop base t) ++ (q ∷ []))
  row_lent t base count q part l room e =
      let at = base + f.width * count in
      let n = ap (λ k. base + f.width * k) (length-raws_from f count (drop base t)) in
      let place : at ≡ base + f.width * length (raws_from_in f count (drop base t)) = sym n in
      let rest : length (drop at t) ≤ length t - at = simp length-drop (omega arith) in
      row_appended t _ base (raws_from_in f count (drop base t)) q l (omega arith)
      (rw (e, take_all (length t - at) (drop at t) rest, drop_of_length-le (drop at t) rest, drop-drop f.width at t, append-nil)
      (ap (λ m. take m t ++ (f.words q ++ drop (m + f.width) t)) place))

  -- where the width is read from elsewhere
  pub row_lent_wide : (w : ℕ) (t : List ℕ) (base count : ℕ) (q : f.Raw) (part : List ℕ) → LaidIn f t base (raws_from_in f count (drop base t))
      → base + f.width * count + f.width ≤ length t
      → part ≡ f.words q ++ drop f.width (take (length t - (base + w * count)) (drop (base + w * count) t)) → w ≡ f.width
      → LeftIn f t base (put_mid (base + w * count) (length t - (base + w * count)) t part) (raws_from_in f count (drop base t) ++ (q ∷ []))
  row_lent_wide w t base count q part l room p e = rw e (row_lent t base count q part l room (rw e at p))

  -- ---- the last row cleared

  cleared : (rs : List f.Raw) (n i : ℕ) → suc i ≡ length rs
      → take (f.width * i) (flat_in f rs ++ replicate n 0) ++ (replicate f.width 0 ++ drop (f.width * i + f.width) (flat_in f rs ++ replicate n 0))
      ≡ flat_in f (take i rs) ++ replicate (f.width + n) 0
  cleared rs n i e =
      let l = length_flat f law rs in
      let k = ap (λ m. f.width * m) e in
      let more : f.width * i + f.width ≡ length (flat_in f rs) = omega arith in
      rw (
        take-append-le (f.width * i) (flat_in f rs) (replicate n 0) (omega arith),
        drop_at (flat_in f rs) (replicate n 0) (f.width * i + f.width) (sym more),
        take_flat f law i rs,
      )
      (ap (λ zs. flat_in f (take i rs) ++ zs) (replicate-append-replicate {A = ℕ} f.width n 0))

  pub last_cleared : (t t' : List ℕ) (base : ℕ) (rs : List f.Raw) (i : ℕ) → LaidIn f t base rs → suc i ≡ length rs
      → t' ≡ take (base + f.width * i) t ++ (replicate f.width 0 ++ drop (base + f.width * i + f.width) t)
      → LeftIn f t base t' (take i rs)
  last_cleared t t' base rs i l n e =
      let fits = l.fits in
      let k = ap (λ m. f.width * m) n in
      let shorter = ap (λ m. f.width * m) (length-take-le i rs (omega arith)) in
      let left : f.width + (length t - (base + f.width * length rs)) ≡ length t - (base + f.width * length (take i rs)) = omega arith in
      left_written t t' (replicate f.width 0) base (f.width * i) f.width (take i rs) (length-replicate {A = ℕ} f.width 0) (omega arith) e (omega arith)
      (rw l.behind (cleared rs (length t - (base + f.width * length rs)) i n ∙ ap (λ m. flat_in f (take i rs) ++ replicate m 0) left))

  -- ---- the words of row i, and row i + 1 moved down onto row i

  words_of_row : (t : List ℕ) (base : ℕ) (rs : List f.Raw) (i : ℕ) (none : f.Raw) → LaidIn f t base rs → i < length rs
      → take f.width (drop (base + f.width * i) t) ≡ f.words (get_or rs i none)
  words_of_row t base rs i none l h =
      let n = length_flat f law rs in
      let p = within rs i h in
      let q = get_or rs i none in
      rw (
        ← drop-drop (f.width * i) base t,
        l.behind,
        drop-append-le (f.width * i) (flat_in f rs) _ (omega arith),
        drop_flat f law i rs,
        drop-cons rs i none h,
        flat_cons f (get_or rs i none) (drop (suc i) rs),
        append_assoc (f.words q) (flat_in f (drop (suc i) rs)) _,
      )
      (take_at (f.words q) _ f.width (law.length_words q))

  pub row_moved : (t t' : List ℕ) (base : ℕ) (rs : List f.Raw) (i : ℕ) (none : f.Raw) → LaidIn f t base rs → suc i < length rs
      → t' ≡ take (base + f.width * i) t ++ (take f.width (drop (base + f.width * i + f.width) t) ++ drop (base + f.width * i + f.width) t)
      → LeftIn f t base t' (set rs i (get_or rs (suc i) none))
  row_moved t t' base rs i none l h e =
      let at : base + f.width * suc i ≡ base + f.width * i + f.width = omega arith in
      let row : take f.width (drop (base + f.width * i + f.width) t) ≡ f.words (get_or rs (suc i) none) = rw (← at) (words_of_row t base rs (suc i) none l h) in
      row_replaced t t' base rs i (get_or rs (suc i) none) l (omega arith)
      (e ∙ ap (λ ws. take (base + f.width * i) t ++ (ws ++ drop (base + f.width * i + f.width) t)) row)
