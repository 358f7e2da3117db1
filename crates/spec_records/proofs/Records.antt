-- The steps of a layout: a record that is there and right, one that is not, the end; and the same read backwards.
use mathlib.Core.Path.{◌≡◌, refl, sym, ap, ◌∙◌, subst}
use mathlib.Core.List.{List, [], ◌∷◌, ◌++◌}
use mathlib.Core.Bool.{Bool, true, false, cond, ◌&&◌, and-false}
use Prim.Native.Nat.{ℕ, ◌+◌, ◌≤◌, ◌<◌}
use native.Mathlib.Omega.{arith}
use borrow.Author.Tests.{le-leb, lt-leb, eq-eqb, ne_eqb, leb-true, eqb-true}
use lib.ListN.{length, length-append}
use lib.Dec.{leb, eqb}
use Rattle.spec_tables.specs.Tables.{slice, Put}
use Rattle.spec_tables.proofs.Tables.{put_same, put_then}
use Rattle.spec_records.specs.Little.{little_at}
use Rattle.spec_records.specs.Records.{Span, Layout, wrong, bodies, Wants, done, one, optional, size_at, body_at, is_record, is_right, header, record_of, behind, record_laid, laid_out}
use Rattle.spec_records.proofs.Little.{length_little}

-- a test of two that passed is two tests that passed
pub both : (a b : Bool) → a && b ≡ true → (a ≡ true) × (b ≡ true)
both true b e = (refl, e)
both false b e = ((cc), (cc))

-- ---- whether a record is there
module _ (kind : ℕ) (s : List ℕ) (at : ℕ) where
  -- a record whose body ends within the input and whose kind is right is there
  pub record_there : at + 6 + size_at s at ≤ length s → little_at 2 s (at + 4) ≡ kind → is_record kind s at ≡ true
  unfolding is_record
  record_there h e = rw (le-leb _ _ h, eq-eqb _ _ e)

  -- a record whose body ends past the input is not there
  pub record_past : length s < at + 6 + size_at s at → is_record kind s at ≡ false
  unfolding is_record
  record_past h = rw (lt-leb _ _ h)

  -- a record of another kind is not there
  pub record_other : (little_at 2 s (at + 4) ≡ kind → ⊥) → is_record kind s at ≡ false
  unfolding is_record
  record_other h = rw (ne_eqb _ _ h) (and-false (leb (at + 6 + size_at s at) (length s)))

  record_parts : is_record kind s at ≡ true → (leb (at + 6 + size_at s at) (length s) ≡ true) × (eqb (little_at 2 s (at + 4)) kind ≡ true)
  unfolding is_record
  record_parts e = both (leb (at + 6 + size_at s at) (length s)) (eqb (little_at 2 s (at + 4)) kind) e

  -- a record that is there ends within the input, so reading its body does
  pub record_within : is_record kind s at ≡ true → at + 6 + size_at s at ≤ length s
  record_within e = leb-true _ _ (record_parts e).0

  -- a record that is there has the kind
  pub record_kind : is_record kind s at ≡ true → little_at 2 s (at + 4) ≡ kind
  record_kind e = eqb-true _ _ (record_parts e).1

-- a right record of this kind, whose body has this size
pub record RightRecord (kind : ℕ) (test : List ℕ → Bool) (s : List ℕ) (at size : ℕ) : Type 0 where
  pub there : is_record kind s at ≡ true
  pub sized : size_at s at ≡ size
  pub passes : test (slice s (at + 6) size) ≡ true

module _ (kind : ℕ) (test : List ℕ → Bool) (s : List ℕ) (at : ℕ) where
  -- a right record is there, and its body passes the test
  pub right_parts : is_right kind test s at ≡ true → RightRecord kind test s at (size_at s at)
  unfolding is_right
  right_parts e =
      let p = both (is_record kind s at) (test (body_at s at)) e in
      record { there = p.0; sized = refl; passes = p.1 }

  -- of a record that is there the test of its body decides
  pub test_decides : (size : ℕ) (b : Bool) → is_record kind s at ≡ true → size_at s at ≡ size → test (slice s (at + 6) size) ≡ b → is_right kind test s at ≡ b
  unfolding is_right
  test_decides size b there e t = rw (e, there, t)

  -- a record that is not there is not right
  pub none_there : is_record kind s at ≡ false → is_right kind test s at ≡ false
  unfolding is_right
  none_there e = rw e

-- a right record ends within the input, so reading its body does
pub right_within : {kind at size : ℕ} {test : List ℕ → Bool} {s : List ℕ} → RightRecord kind test s at size → at + 6 + size ≤ length s
right_within {kind} {at} {size} {test} {s} r = omega (arith, record_within kind s at r.there, r.sized)

-- ---- one step of a layout
laid_right : {kind at size : ℕ} {test : List ℕ → Bool} {s : List ℕ} (next : List ℕ → Wants) → RightRecord kind test s at size
    → laid_out (one kind test next) s at ≡ behind (record { start = at + 6; size = size }) (laid_out (next (slice s (at + 6) size)) s (at + 6 + size))
unfolding laid_out is_right
laid_right next r = rw (r.sized, r.there, r.passes)

laid_wrong : (kind : ℕ) (test : List ℕ → Bool) (next : List ℕ → Wants) (s : List ℕ) (at : ℕ) → is_right kind test s at ≡ false
    → laid_out (one kind test next) s at ≡ wrong at
unfolding laid_out
laid_wrong kind test next s at e = rw e

laid_end : (s : List ℕ) (at : ℕ) → at ≡ length s → laid_out done s at ≡ bodies []
unfolding laid_out
laid_end s at e = rw (eq-eqb at (length s) e)

laid_extra : (s : List ℕ) (at : ℕ) → (at ≡ length s → ⊥) → laid_out done s at ≡ wrong at
unfolding laid_out
laid_extra s at more = rw (ne_eqb at (length s) more)

-- at the end of the input an optional record is left out
laid_left_out : (kind : ℕ) (test : List ℕ → Bool) (next : List ℕ → Wants) (s : List ℕ) (at : ℕ) → at ≡ length s
    → laid_out (optional kind test next) s at ≡ bodies []
unfolding laid_out
laid_left_out kind test next s at e = rw (eq-eqb at (length s) e)

-- anywhere else it is wanted as any other
laid_wanted : (kind : ℕ) (test : List ℕ → Bool) (next : List ℕ → Wants) (s : List ℕ) (at : ℕ) → (at ≡ length s → ⊥)
    → laid_out (optional kind test next) s at ≡ laid_out (one kind test next) s at
unfolding laid_out
laid_wanted kind test next s at more = rw (ne_eqb at (length s) more)

-- ---- the records read so far
-- the bodies read so far, in front of how the rest is laid out; a wrong rest stays wrong
pub all_behind_lem : List Span → Layout → Layout
all_behind_lem [] l = l
all_behind_lem (b ∷ bs) l = behind b (all_behind_lem bs l)

one_behind : (bs : List Span) (b : Span) (l : Layout) → all_behind_lem bs (behind b l) ≡ all_behind_lem (bs ++ (b ∷ [])) l
unfolding all_behind_lem
one_behind [] b l = refl
one_behind (x ∷ bs) b l = ap (behind x) (one_behind bs b l)

behind_wrong : (bs : List Span) (at : ℕ) → all_behind_lem bs (wrong at) ≡ wrong at
unfolding all_behind_lem
behind_wrong [] at = refl
behind_wrong (b ∷ bs) at = ap (behind b) (behind_wrong bs at)

behind_none : (bs : List Span) → all_behind_lem bs (bodies []) ≡ bodies bs
unfolding all_behind_lem
behind_none [] = refl
behind_none (b ∷ bs) = ap (behind b) (behind_none bs)

-- the reader's invariant: of what is wanted of s, these bodies were read, and the rest is wanted at a place
pub record Reached (all : Wants) (s : List ℕ) (passed : List Span) (wanted : Wants) (at : ℕ) : Type 0 where
  pub so : laid_out all s 0 ≡ all_behind_lem passed (laid_out wanted s at)

-- start: nothing is read, and all is wanted
pub reach_start : (all : Wants) (s : List ℕ) → Reached all s [] all 0
unfolding all_behind_lem
reach_start all s = record { so = refl }

module _ {all : Wants} {s : List ℕ} {passed : List Span} {at : ℕ} where
  -- step: a right record is read, and what is wanted behind it comes next
  pub reach_on : {kind size : ℕ} {test : List ℕ → Bool} {next : List ℕ → Wants} → Reached all s passed (one kind test next) at → RightRecord kind test s at size
      → Reached all s (passed ++ (record { start = at + 6; size = size } ∷ [])) (next (slice s (at + 6) size)) (at + 6 + size)
  reach_on {kind} {size} {test} {next} r here = record { so = r.so ∙ ap (all_behind_lem passed) (laid_right next here) ∙ one_behind passed _ _ }

  -- early end: a record that is not right is the first wrong one
  pub reach_wrong : {kind : ℕ} {test : List ℕ → Bool} {next : List ℕ → Wants} → Reached all s passed (one kind test next) at → is_right kind test s at ≡ false
      → laid_out all s 0 ≡ wrong at
  reach_wrong {kind} {test} {next} r off = r.so ∙ ap (all_behind_lem passed) (laid_wrong kind test next s at off) ∙ behind_wrong passed at

  -- end: nothing more is wanted where the input ends, so the bodies are those that were read
  pub reach_end : Reached all s passed done at → at ≡ length s → laid_out all s 0 ≡ bodies passed
  reach_end r e = r.so ∙ ap (all_behind_lem passed) (laid_end s at e) ∙ behind_none passed

  -- early end: bytes behind the last record are wrong
  pub reach_extra : Reached all s passed done at → (at ≡ length s → ⊥) → laid_out all s 0 ≡ wrong at
  reach_extra r more = r.so ∙ ap (all_behind_lem passed) (laid_extra s at more) ∙ behind_wrong passed at

  -- end: an optional record is left out where the input ends
  pub reach_left_out : {kind : ℕ} {test : List ℕ → Bool} {next : List ℕ → Wants} → Reached all s passed (optional kind test next) at → at ≡ length s
      → laid_out all s 0 ≡ bodies passed
  reach_left_out {kind} {test} {next} r e = r.so ∙ ap (all_behind_lem passed) (laid_left_out kind test next s at e) ∙ behind_none passed

  -- bytes where an optional record may stand have to be that record
  pub reach_wanted : {kind : ℕ} {test : List ℕ → Bool} {next : List ℕ → Wants} → Reached all s passed (optional kind test next) at → (at ≡ length s → ⊥)
      → Reached all s passed (one kind test next) at
  reach_wanted {kind} {test} {next} r more = record { so = r.so ∙ ap (all_behind_lem passed) (laid_wanted kind test next s at more) }

-- ---- the same backwards
cond_back : (b : Bool) (l : Layout) (at : ℕ) (bs : List Span) → cond b l (wrong at) ≡ bodies bs → (b ≡ true) × (l ≡ bodies bs)
cond_back true l at bs e = (refl, e)
cond_back false l at bs e = ((cc), (cc))

behind_back : (a b : Span) (l : Layout) (bs : List Span) → behind a l ≡ bodies (b ∷ bs) → (a ≡ b) × (l ≡ bodies bs)
behind_back a b (wrong at) bs e = ((cc), (cc))
behind_back a b (bodies rest) bs e = ((cc), (cc))

-- what it says that a layout has a first body: its record is right, and the rest is laid out behind it
pub record OneBack (kind : ℕ) (test : List ℕ → Bool) (next : List ℕ → Wants) (s : List ℕ) (at size : ℕ) (rest : List Span) : Type 0 where
  pub right : RightRecord kind test s at size
  pub onward : laid_out (next (slice s (at + 6) size)) s (at + 6 + size) ≡ bodies rest

-- a layout with a body has a right record first: how an accepted input is taken apart again
pub one_back : (kind : ℕ) (test : List ℕ → Bool) (next : List ℕ → Wants) (s : List ℕ) (at : ℕ) (b : Span) (rest : List Span)
    → laid_out (one kind test next) s at ≡ bodies (b ∷ rest) → OneBack kind test next s at b.size rest
unfolding laid_out
one_back kind test next s at b rest e =
    let here : Span = record { start = at + 6; size = size_at s at } in
    let l : Layout = laid_out (next (body_at s at)) s (at + 6 + size_at s at) in
    let p = cond_back (is_right kind test s at) (behind here l) at (b ∷ rest) e in
    let q = behind_back here b l rest p.1 in
    subst (λ (size : ℕ). OneBack kind test next s at size rest) (ap (λ (x : Span). x.size) q.0)
    (record { right = right_parts kind test s at p.0; onward = q.1 })

-- a layout that wants no more records is at the end of the input
pub done_back : (s : List ℕ) (at : ℕ) (bs : List Span) → laid_out done s at ≡ bodies bs → at ≡ length s
unfolding laid_out
done_back s at bs e = eqb-true at (length s) (cond_back (eqb at (length s)) (bodies []) at bs e).0

module _ (kind : ℕ) (test : List ℕ → Bool) (next : List ℕ → Wants) (s : List ℕ) (at : ℕ) where
  -- a layout in which an optional record is left out is at the end of the input
  pub left_out_back : laid_out (optional kind test next) s at ≡ bodies [] → at ≡ length s
  unfolding laid_out
  left_out_back e =
      eqb-true at (length s) (go (eqb at (length s)) (is_right kind test s at) (laid_out (next (body_at s at)) s (at + 6 + size_at s at)) e)
    where
      go : (ended right : Bool) (l : Layout) → cond ended (bodies []) (record_laid right s at l) ≡ bodies [] → ended ≡ true
      go true right l e = refl
      go false true (wrong _) e = cc
      go false true (bodies bs) e = cc
      go false false l e = cc

  -- a layout that has it has a right record there, as any other
  pub optional_back : (b : Span) (rest : List Span) → laid_out (optional kind test next) s at ≡ bodies (b ∷ rest)
      → OneBack kind test next s at b.size rest
  unfolding laid_out
  optional_back b rest e = one_back kind test next s at b rest (go (eqb at (length s)) _ e)
    where
      go : (ended : Bool) (l : Layout) → cond ended (bodies []) l ≡ bodies (b ∷ rest) → l ≡ bodies (b ∷ rest)
      go true l e = cc
      go false l e = e

-- ---- lengths
length_header : (size kind : ℕ) → length (header size kind) ≡ 6
unfolding header
length_header size kind = simp (length-append, length_little)

-- a record takes six bytes more than its body
pub length_record : (kind : ℕ) (body : List ℕ) → length (record_of kind body) ≡ 6 + length body
unfolding record_of
length_record kind body = simp (length-append, length_header)

-- ---- a header, and the body behind it
-- a header put before its body is a record
pub record_put : (kind size : ℕ) {at inner next : ℕ} {body old mid out : List ℕ} → length body ≡ size → Put at (header size kind) old mid inner
    → Put inner body mid out next
    → Put at (record_of kind body) old out next
unfolding record_of
record_put kind size e p q = put_then (put_same (ap (λ (n : ℕ). header n kind) (sym e)) p) q
