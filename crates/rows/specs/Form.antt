-- A form of rows: what a raw row of it is, how many words it has, which they are, and how it is read.
-- What stands behind the front of a table is the words of raw rows of one form, and then zeros.
use Rattle.std.specs.Prelude.{ℕ, zero, suc, ◌+◌, ◌-◌, ◌*◌, ◌≤◌, ◌≡◌, List, [], ◌∷◌, ◌++◌, length, take, drop, replicate}

pub record Form : Type 1 where
  pub Raw : Type 0
  pub width : ℕ
  pub words : Raw → List ℕ
  -- the raw row whose words start at a place
  pub read : List ℕ → ℕ → Raw

-- the words of raw rows, and raw rows read from words
unfoldable pub flat_in : (f : Form) → List f.Raw → List ℕ
flat_in f [] = []
flat_in f (r ∷ rs) = f.words r ++ flat_in f rs

unfoldable pub raws_from_in : (f : Form) → ℕ → List ℕ → List f.Raw
raws_from_in f zero ws = []
raws_from_in f (suc k) ws = f.read ws 0 ∷ raws_from_in f k (drop f.width ws)

-- ---- for inner contracts

-- t is a front of base words, these raw rows, and zeros
pub record LaidIn (f : Form) (t : List ℕ) (base : ℕ) (rs : List f.Raw) : Type 0 where
  pub fits : base + f.width * length rs ≤ length t
  pub behind : drop base t ≡ flat_in f rs ++ replicate (length t - (base + f.width * length rs)) 0

-- t has become t': as long, with the same front, and now these raw rows
pub record LeftIn (f : Form) (t : List ℕ) (base : ℕ) (t' : List ℕ) (rs : List f.Raw) : Type 0 where
  pub long : length t' ≡ length t
  pub front : take base t' ≡ take base t
  pub rows : LaidIn f t' base rs
