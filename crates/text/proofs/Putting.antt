-- Bytes put behind bytes that were put are put as one.
use Prim.Native.Nat.{ℕ, suc, ◌+◌, ◌<◌}
use mathlib.Core.Path.{◌≡◌, refl, ap, ◌∙◌}
use mathlib.Core.List.{List, [], ◌∷◌, ◌++◌, append_assoc, append-nil}
use native.Mathlib.Omega.{arith}
use native.Mathlib.Numerals.{add-one}
use lib.ListN.{length, take, get_or, set, length-append, length-set}
use lib.Seq.{take-suc, take-suc-set, take_all}
use Rattle.text.specs.Putting.{Put}

-- put, then put: the joined bytes are put
pub put_put : (buffer : List ℕ) (at : ℕ) (xs middle : List ℕ) (between : ℕ) (ys after : List ℕ) (end : ℕ)
    → Put buffer at xs middle between → Put middle between ys after end → Put buffer at (xs ++ ys) after end
put_put buffer at xs middle between ys after end p q =
    (q.0 ∙ ap (λ (l : List ℕ). l ++ ys) p.0 ∙ append_assoc (take at buffer) xs ys, simp length-append (omega arith), q.2 ∙ p.2)

-- the same where the buffer and the index between the two have names of their own
pub put_behind : (buffer : List ℕ) (at : ℕ) (xs middle : List ℕ) (between : ℕ) (here : List ℕ) (held : ℕ) (ys after : List ℕ) (end : ℕ)
    → here ≡ middle → held ≡ between → Put buffer at xs middle between → Put here held ys after end → Put buffer at (xs ++ ys) after end
put_behind buffer at xs middle between here held ys after end same index p q =
    put_put buffer at xs middle between ys after end p (rw (← same, ← index) q)

-- what is put may be said in another way
pub put_same : (buffer : List ℕ) (at : ℕ) (xs ys after : List ℕ) (end : ℕ) → xs ≡ ys → Put buffer at ys after end → Put buffer at xs after end
put_same buffer at xs ys after end e p = rw e p

-- one byte stored behind the bytes held
pub put_byte : (buffer : List ℕ) (at b : ℕ) → at < length buffer → Put buffer at (b ∷ []) (set buffer at b) (at + 1)
put_byte buffer at b h = (rw (add-one, take-suc-set) refl, refl, length-set buffer at b)

-- none of the bytes yet
pub put_none : (buffer : List ℕ) (at : ℕ) → take (at + 0) buffer ≡ take at buffer ++ []
put_none buffer at = let z : at + 0 ≡ at = omega arith in rw (z, append-nil)

-- the next of the bytes, stored behind those before it
pub put_next : (buffer : List ℕ) (at : ℕ) (bytes after : List ℕ) (i : ℕ) → i < length bytes → at + i < length after
    → take (at + i) after ≡ take at buffer ++ take i bytes
    → take (at + (i + 1)) (set after (at + i) (get_or bytes i 0)) ≡ take at buffer ++ take (i + 1) bytes
put_next buffer at bytes after i h room e =
    let s : at + (i + 1) ≡ suc (at + i) = omega arith in
    rw (s, take-suc-set after (at + i) (get_or bytes i 0) room, e, append_assoc, add-one, take-suc bytes i 0 h)

-- all of them
pub put_all : (buffer : List ℕ) (at : ℕ) (bytes after : List ℕ) (i : ℕ) → i ≡ length bytes → length after ≡ length buffer
    → take (at + i) after ≡ take at buffer ++ take i bytes → Put buffer at bytes after (at + i)
put_all buffer at bytes after i h kept e = (e ∙ ap (λ (l : List ℕ). take at buffer ++ l) (take_all i bytes (omega arith)), omega arith, kept)
