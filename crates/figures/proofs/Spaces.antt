-- The counts of the line, put one by one with a space behind each, and the numbers behind them.
use Prim.Native.Nat.{ℕ, ◌+◌, ◌<◌}
use native.Mathlib.Numerals.{add-one}
use native.Mathlib.Omega.{arith}
use mathlib.Core.Path.{◌≡◌, refl, sym, ap, ◌∙◌}
use mathlib.Core.List.{List, [], ◌∷◌, ◌++◌, map, append_assoc, append-nil}
use lib.ListN.{length, get_or, take}
use lib.Seq.{take-suc}
use Rattle.text.specs.Text.{decimal, line, three_line}
use Rattle.text.specs.Putting.{Put}
use Rattle.text.proofs.Putting.{put_put}
use Rattle.figures.specs.Line.{spaced}

-- no count put
pub none_put : (out : List ℕ) (at : ℕ) → Put out at (spaced []) out at
unfolding spaced
none_put out at = (sym (append-nil (take at out)), omega arith, refl)

spaced-append : (xs ys : List ℕ) → spaced (xs ++ ys) ≡ spaced xs ++ spaced ys
unfolding spaced
spaced-append [] ys = refl
spaced-append (k ∷ ks) ys = rw (append_assoc, spaced-append ks ys)

-- one count more is the last
spaced-next : (ks : List ℕ) (i : ℕ) → i < length ks → spaced (take (i + 1) ks) ≡ spaced (take i ks) ++ (decimal (get_or ks i 0) ++ (32 ∷ []))
unfolding spaced
spaced-next ks i h = rw (add-one i, take-suc ks i 0 h, spaced-append)

-- the counts before i are put, then that of i and the space
pub count_put : (ks out : List ℕ) (at i : ℕ) (middle : List ℕ) (between : ℕ) (digits : List ℕ) (mark : ℕ) (after : List ℕ) (end : ℕ) → i < length ks
    → Put out at (spaced (take i ks)) middle between → Put middle between (decimal (get_or ks i 0)) digits mark → Put digits mark (32 ∷ []) after end
    → Put out at (spaced (take (i + 1) ks)) after end
count_put ks out at i middle between digits mark after end h p q r =
    rw (spaced-next ks i h) (put_put out at _ middle between _ after end p (put_put middle between _ digits mark _ after end q r))

-- a number behind the counts has a space in front already
pub line-spaced : (ks : List ℕ) (a b c : ℕ) → line (map decimal (ks ++ (a ∷ b ∷ c ∷ []))) ≡ spaced ks ++ three_line a b c
unfolding line spaced
line-spaced [] a b c = refl
line-spaced (k ∷ []) a b c = sym (append_assoc (decimal k) (32 ∷ []) (three_line a b c))
line-spaced (k ∷ (l ∷ ks)) a b c =
    ap (λ (x : List ℕ). decimal k ++ (32 ∷ x)) (line-spaced (l ∷ ks) a b c) ∙ sym (append_assoc (decimal k) (32 ∷ spaced (l ∷ ks)) (three_line a b c))

-- the counts are put, then the other three numbers
pub line_put : (ks : List ℕ) (a b c : ℕ) (out : List ℕ) (at : ℕ) (middle : List ℕ) (between : ℕ) (after : List ℕ) (end : ℕ) → Put out at (spaced ks) middle between
    → Put middle between (three_line a b c) after end → Put out at (line (map decimal (ks ++ (a ∷ b ∷ c ∷ [])))) after end
line_put ks a b c out at middle between after end p q = rw (line-spaced ks a b c) (put_put out at _ middle between _ after end p q)

-- equal numbers have the same line
pub three_put : (out : List ℕ) (at a b c x y z : ℕ) (after : List ℕ) (end : ℕ) → a ≡ x → b ≡ y → c ≡ z
    → Put out at (three_line x y z) after end → Put out at (three_line a b c) after end
three_put out at a b c x y z after end e f g p = rw (e, f, g) p
