-- What the bytes of a piece come to, up to the first that brings something to its end.
use Prim.Native.Nat.{ℕ, zero, suc, ◌+◌, ◌*◌, ◌-◌, ◌≤◌, ◌<◌, min}
use native.Mathlib.Omega.{arith}
use native.Mathlib.Nat.{add-zero, sub-zero}
use mathlib.Core.Path.{◌≡◌, refl, sym, ap, ◌∙◌}
use mathlib.Core.Bool.{Bool, true, false, cond}
use mathlib.Core.List.{List}
use lib.ListN.{length, get_or, set, drop, drop_of_length-le}
use lib.Seq.{drop-cons, paste, paste-zero, paste-suc}
use lib.Dec.{eqb, ltb}
use borrow.Author.Tests.{eq-eqb, ne_eqb}
use Rattle.littleendian.specs.Words.{word_at}
use Rattle.cutting.specs.declared.Phase.{Phase}
use Rattle.cutting.specs.declared.Found.{Found}
use Rattle.cutting.specs.declared.Taken.{Taken}
use Rattle.cutting.specs.Cutting.{longest_sheet, Cut, opened, byte_cut}
use Rattle.cutting.specs.Pieces.{Part, going_on, cut_to, CutsTo}

-- ---- what came to its end

no_length : Found.Length ≡ Found.Nothing → ⊥
no_length e = let z : ◌≡◌ {A = ℕ} 0 1 = cc in omega arith

no_sheet : (end : ℕ) → Found.Sheet end ≡ Found.Nothing → ⊥
no_sheet end e = let z : ◌≡◌ {A = ℕ} 0 1 = cc in omega arith

-- ---- bytes one after another

-- a cut, and where nothing came to its end what the rest comes to
abbrev behind : Cut → List ℕ → Part
behind c rest =
    going_on c.found (cut_to c.phase c.body rest) (record { phase = c.phase; body = c.body; found = c.found; rest = rest })

-- something came to its end
ended : (c : Cut) (rest : List ℕ) → (c.found ≡ Found.Nothing → ⊥)
    → record { phase = c.phase; body = c.body; found = c.found; rest = rest } ≡ behind c rest
unfolding going_on
ended c rest n = go c.found n
  where
    go : (found : Found) → (found ≡ Found.Nothing → ⊥)
        → record { phase = c.phase; body = c.body; found = found; rest = rest }
        ≡ going_on found (cut_to c.phase c.body rest) (record { phase = c.phase; body = c.body; found = found; rest = rest })
    go Found.Nothing n = absurd (n refl)
    go Found.Length n = refl
    go (Found.Sheet end) n = refl
    go Found.PassedOver n = refl

-- no byte is left
all_taken : (phase : Phase) (body bytes : List ℕ) (n : ℕ) → length bytes ≤ n
    → record { phase = phase; body = body; found = Found.Nothing; rest = drop n bytes } ≡ cut_to phase body (drop n bytes)
unfolding cut_to
all_taken phase body bytes n h = rw (drop_of_length-le bytes h)

-- the byte at an index, and the bytes behind it
cut_at : (bytes : List ℕ) (m : ℕ) (phase : Phase) (body : List ℕ) → m < length bytes
    → cut_to phase body (drop m bytes) ≡ behind (byte_cut phase body (get_or bytes m 0)) (drop (suc m) bytes)
unfolding cut_to
cut_at bytes m phase body h = rw (drop-cons bytes m 0 h)

-- the phase and the buffer before each byte, as long as nothing comes to its end
abbrev Steady : List ℕ → (ℕ → Phase) → (ℕ → List ℕ) → ℕ → Type 0
Steady bytes phases bodies n = (k : ℕ) → k < n
    → byte_cut (phases k) (bodies k) (get_or bytes k 0) ≡ record { phase = phases (suc k); body = bodies (suc k); found = Found.Nothing }

module _ (bytes : List ℕ) (phases : ℕ → Phase) (bodies : ℕ → List ℕ) (all : Part) (starts : cut_to (phases 0) (bodies 0) bytes ≡ all) where
  steadily : (n : ℕ) → n ≤ length bytes → Steady bytes phases bodies n → cut_to (phases n) (bodies n) (drop n bytes) ≡ all
  unfolding going_on
  steadily zero h one = starts
  steadily (suc n) h one =
      sym (cut_at bytes n (phases n) (bodies n) (omega arith) ∙ ap (λ c. behind c (drop (suc n) bytes)) (one n (omega arith)))
      ∙ steadily n (omega arith) (λ k l. one k (omega arith))

  -- and then a byte that brings something to its end
  steadily_to : (m : ℕ) (c : Cut) → m < length bytes → Steady bytes phases bodies m → byte_cut (phases m) (bodies m) (get_or bytes m 0) ≡ c
      → behind c (drop (suc m) bytes) ≡ all
  steadily_to m c h one e =
      sym (cut_at bytes m (phases m) (bodies m) h ∙ ap (λ c. behind c (drop (suc m) bytes)) e) ∙ steadily m (omega arith) one

-- ---- bytes that are kept

-- one byte of a length or of a sheet, both kept in the buffer up to an end
abbrev pub Fills : (ℕ → Phase) → ℕ → (List ℕ → Cut) → Type 0
Fills filling end full = (at : ℕ) (body : List ℕ) (b : ℕ)
    → byte_cut (filling at) body b
    ≡ cond (eqb (at + 1) end) (full (set body at b)) (record { phase = filling (at + 1); body = set body at b; found = Found.Nothing })

abbrev pub length_full : List ℕ → Cut
length_full filled = opened (word_at filled 0) filled

pub fills_length : Fills Phase.Length 4 length_full
unfolding byte_cut
fills_length at body b = refl

pub length_found : (filled : List ℕ) → (length_full filled).found ≡ Found.Nothing → ⊥
unfolding opened
length_found filled = go (eqb (word_at filled 0) 0) (ltb longest_sheet (word_at filled 0))
  where
    go : (a b : Bool) → (cond {A = Cut} a (record { phase = Phase.Length 0; body = filled; found = Found.Sheet 0 })
        (cond {A = Cut} b (record { phase = Phase.Passing (4 * word_at filled 0); body = filled; found = Found.Length })
        (record { phase = Phase.Body 0 (4 * word_at filled 0); body = filled; found = Found.Length }))).found ≡ Found.Nothing → ⊥
    go true b = no_sheet 0
    go false true = no_length
    go false false = no_length

abbrev pub body_full : ℕ → List ℕ → Cut
body_full end filled = record { phase = Phase.Length 0; body = filled; found = Found.Sheet end }

pub body_found : (end : ℕ) (filled : List ℕ) → (body_full end filled).found ≡ Found.Nothing → ⊥
body_found end filled = no_sheet end

pub fills_body : (end : ℕ) → Fills (λ at. Phase.Body at end) end (body_full end)
unfolding byte_cut
fills_body end at body b = refl

module _ (filling : ℕ → Phase) (end : ℕ) (full : List ℕ → Cut) (fills : Fills filling end full)
    (at : ℕ) (body bytes : List ℕ) (inside : at < end) (room : end ≤ length body) where
  kept : (k : ℕ) → k < length bytes → at + suc k ≤ end → byte_cut (filling (at + k)) (paste body at bytes k) (get_or bytes k 0)
      ≡ cond (eqb (at + suc k) end) (full (paste body at bytes (suc k))) (record { phase = filling (at + suc k); body = paste body at bytes (suc k); found = Found.Nothing })
  kept k l h =
      let next : at + k + 1 ≡ at + suc k = omega arith in
      fills (at + k) (paste body at bytes k) (get_or bytes k 0) ∙ rw (paste-suc body at bytes k 0 (omega arith) l, next)

  steady : (n : ℕ) → n ≤ length bytes → at + n < end → Steady bytes (λ k. filling (at + k)) (paste body at bytes) n
  steady n h l k b = kept k (omega arith) (omega arith) ∙ rw (ne_eqb (at + suc k) end (omega arith))

  starts : cut_to (filling (at + 0)) (paste body at bytes 0) bytes ≡ cut_to (filling at) body bytes
  starts = rw (← paste-zero body at bytes, add-zero at)

  filled : (m : ℕ) → m < length bytes → at + suc m ≡ end → behind (full (paste body at bytes (suc m))) (drop (suc m) bytes) ≡ cut_to (filling at) body bytes
  filled m h e =
      steadily_to bytes (λ k. filling (at + k)) (paste body at bytes) _ starts m _ h (steady m (omega arith) (omega arith))
      (kept m h (omega arith) ∙ rw (eq-eqb (at + suc m) end e))

  module _ (n : ℕ) (left : List ℕ) (fill : (n ≡ min (end - at) (length bytes)) × (left ≡ paste body at bytes n)) (some : 1 ≤ length bytes) where
    pub filled_on : at + n < end → CutsTo (filling at) body bytes (record { phase = filling (at + n); found = Found.Nothing; count = n }) left
    filled_on h = (
      rw fill.1 (all_taken (filling (at + n)) (paste body at bytes n) bytes n (omega arith)
          ∙ steadily bytes (λ k. filling (at + k)) (paste body at bytes) _ starts n (omega arith) (steady n (omega arith) h)),
      omega arith,
      omega arith,
    )

    pub filled_up : ((filled : List ℕ) → (full filled).found ≡ Found.Nothing → ⊥) → end ≤ at + n → (taken : Taken)
        → record { phase = taken.phase; body = left; found = taken.found } ≡ full left → taken.count ≡ n
        → CutsTo (filling at) body bytes taken left
    filled_up some h taken e c =
        let m : n ≡ suc (n - 1) = omega arith in
        let whole : record { phase = taken.phase; body = left; found = taken.found; rest = drop taken.count bytes } ≡ behind (full left) (drop taken.count bytes) =
        ap (λ (c : Cut). record { phase = c.phase; body = c.body; found = c.found; rest = drop taken.count bytes }) e ∙ ended (full left) _ (some left) in (
          whole ∙ rw (c, fill.1, m) (filled (n - 1) (omega arith) (omega arith)),
          omega arith,
          omega arith,
        )

-- ---- bytes that are passed over

module _ (left : ℕ) (bytes body : List ℕ) (n : ℕ) (some : 1 ≤ length bytes) (e : n ≡ min left (length bytes)) where
  passing : (m : ℕ) → m < left → Steady bytes (λ k. Phase.Passing (left - k)) (λ k. body) m
  unfolding byte_cut
  passing m h k l =
      let next : left - k - 1 ≡ left - suc k = omega arith in
      rw (ne_eqb (left - k) 1 (omega arith), next)

  passes : cut_to (Phase.Passing (left - 0)) body bytes ≡ cut_to (Phase.Passing left) body bytes
  passes = rw (sub-zero left)

  pub passed_on : n < left → CutsTo (Phase.Passing left) body bytes (record { phase = Phase.Passing (left - n); found = Found.Nothing; count = n }) body
  passed_on h =
      (all_taken (Phase.Passing (left - n)) body bytes n (omega arith) ∙ steadily bytes (λ k. Phase.Passing (left - k)) (λ k. body) _ passes n (omega arith) (passing n h), omega arith, omega arith)

  pub passed_over : 1 ≤ left → left ≤ n → CutsTo (Phase.Passing left) body bytes (record { phase = Phase.Length 0; found = Found.PassedOver; count = n }) body
  unfolding going_on byte_cut
  passed_over some h =
      let m : n ≡ suc (n - 1) = omega arith in
      let last : byte_cut (Phase.Passing (left - (n - 1))) body (get_or bytes (n - 1) 0) ≡ record { phase = Phase.Length 0; body = body; found = Found.PassedOver } =
      rw (eq-eqb (left - (n - 1)) 1 (omega arith)) in (
        rw m (steadily_to bytes (λ k. Phase.Passing (left - k)) (λ k. body) _ passes (n - 1) _ (omega arith) (passing (n - 1) (omega arith)) last),
        omega arith,
        omega arith,
      )

-- ---- a phase that is known

pub cuts_as : (phase known : Phase) (body bytes left : List ℕ) (taken : Taken) → phase ≡ known → CutsTo known body bytes taken left → CutsTo phase body bytes taken left
cuts_as phase known body bytes left taken e h = rw e h
