-- The layout of a sequence of records: a u32 body length, a u16 kind, the body.
-- `Wants` says which records are wanted; what is wanted next may depend on the bodies before, as on a count or a version.
use Rattle.std.specs.Prelude.{ℕ, ◌+◌, ◌%◌, List, [], ◌∷◌, ◌++◌, Bool, cond, ◌&&◌, length, leb, eqb}
use Rattle.spec_tables.specs.Tables.{slice}
use Rattle.spec_records.specs.Little.{little, little_at}

-- a slice of the input
pub record Span : Type 0 where
  pub start : ℕ
  pub size : ℕ

-- the bodies, or the offset of the first wrong record
pub data Layout : Type 0 where
  wrong : ℕ → Layout
  bodies : List Span → Layout

-- the end of the input; or a record of a kind whose body passes a test, and what is wanted behind that body; or either of the two
pub data Wants : Type 0 where
  done : Wants
  one : ℕ → (List ℕ → Bool) → (List ℕ → Wants) → Wants
  optional : ℕ → (List ℕ → Bool) → (List ℕ → Wants) → Wants

-- ---- tests of a body
abbrev pub exactly : ℕ → List ℕ → Bool
exactly n body = eqb (length body) n

-- whole entries of n bytes
abbrev pub whole : ℕ → List ℕ → Bool
whole n body = eqb (length body % n) 0

-- ---- one record
abbrev pub size_at : List ℕ → ℕ → ℕ
size_at s at = little_at 4 s at

abbrev pub body_at : List ℕ → ℕ → List ℕ
body_at s at = slice s (at + 6) (size_at s at)

-- a whole record of the kind stands at the place (where its header runs past the end, so does its body)
unfoldable pub is_record : ℕ → List ℕ → ℕ → Bool
is_record kind s at = leb (at + 6 + size_at s at) (length s) && eqb (little_at 2 s (at + 4)) kind

-- a record of the kind is there, and its body passes the test
unfoldable pub is_right : ℕ → (List ℕ → Bool) → List ℕ → ℕ → Bool
is_right kind test s at = is_record kind s at && test (body_at s at)

-- the six bytes in front of a body
unfoldable pub header : ℕ → ℕ → List ℕ
header size kind = little 4 size ++ little 2 kind

-- the bytes of a record
unfoldable pub record_of : ℕ → List ℕ → List ℕ
record_of kind body = header (length body) kind ++ body

-- ---- the sequence
abbrev pub behind : Span → Layout → Layout
behind b (wrong at) = wrong at
behind b (bodies bs) = bodies (b ∷ bs)

-- the body of a right record in front of how the rest is laid out; a record that is not right is the first wrong one
abbrev pub record_laid : (right : Bool) → List ℕ → ℕ → Layout → Layout
record_laid right s at rest = cond right (behind (record { start = at + 6; size = size_at s at }) rest) (wrong at)

-- the records from a place on, up to the end of the input: extra bytes are wrong too
unfoldable pub laid_out : Wants → List ℕ → ℕ → Layout
laid_out done s at = cond (eqb at (length s)) (bodies []) (wrong at)
laid_out (one kind test next) s at = record_laid (is_right kind test s at) s at (laid_out (next (body_at s at)) s (at + 6 + size_at s at))
laid_out (optional kind test next) s at =
    cond (eqb at (length s))
    (bodies [])
    (record_laid (is_right kind test s at) s at (laid_out (next (body_at s at)) s (at + 6 + size_at s at)))
