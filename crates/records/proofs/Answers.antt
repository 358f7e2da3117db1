-- What the answer about one record, or about the two at the front, says of the bytes. The proofs of the layouts go from record to record by it.
use mathlib.Core.Path.{◌≡◌, refl, sym, ap, ◌∙◌, subst}
use mathlib.Core.List.{List, [], ◌∷◌}
use mathlib.Core.Bool.{Bool, true, false}
use Prim.Native.Nat.{ℕ, ◌+◌, ◌/◌, ◌%◌, ◌≤◌}
use borrow.Author.Tests.{le-leb}
use lib.Dec.{eqb}
use lib.ListN.{length}
use Rattle.std.specs.Option.{option_eq, ok_or}
use Rattle.spec_records.specs.Little.{little_at}
use Rattle.spec_records.specs.Records.{Wants, wrong, done, one, exactly, whole, size_at, is_record, is_right, laid_out}
use Rattle.spec_records.specs.Layouts.{version_for, node_size, settings_right, triangles_right, opening, image_wants, rule_wants, query_wants, gauge_wants, image_spans}
use Rattle.spec_records.proofs.Records.{RightRecord, right_parts, none_there, Reached, reach_start, reach_on, reach_wrong}
use Rattle.spec_records.proofs.Layouts.{version_triangle, exactly_decides, exactly_right, settings_right_lem, triangles_wrong, triangles_whole, opened, tree_wanted, image_spans_lem}
use Rattle.records.specs.Values.{body_if, opening_if, opening_of, TreeNext}
use Rattle.std.specs.Prelude.{Option, Some, None, Result, Ok, Err}
use Rattle.records.specs.declared.layout.WrongRecord.{WrongRecord}

if_right : (right : Bool) (size answer : ℕ) → body_if right size ≡ Some answer → (right ≡ true) × (size ≡ answer)
if_right true size answer e = (refl, (cc))
if_right false size answer e = ((cc), (cc))

if_wrong : (right : Bool) (size : ℕ) → body_if right size ≡ None → right ≡ false
if_wrong true size e = cc
if_wrong false size e = refl

-- where the record ends within the bytes its kind decides
pub kind_decides : (kind : ℕ) (s : List ℕ) (at : ℕ) → at + 6 + size_at s at ≤ length s → is_record kind s at ≡ eqb (little_at 2 s (at + 4)) kind
unfolding is_record
kind_decides kind s at room = rw (le-leb _ _ room)

-- where the record is there its size decides whether it has the wanted one
pub size_decides : (kind : ℕ) (s : List ℕ) (at wanted : ℕ)
    → option_eq eqb (body_if (is_record kind s at) (size_at s at)) (Some wanted) ≡ is_right kind (exactly wanted) s at
size_decides kind s at wanted = go (is_record kind s at) refl
  where
    go : (there : Bool) → is_record kind s at ≡ there → option_eq eqb (body_if there (size_at s at)) (Some wanted) ≡ is_right kind (exactly wanted) s at
    go true e = sym (exactly_decides kind s at (size_at s at) e refl wanted)
    go false e = sym (none_there kind (exactly wanted) s at e)

-- of a record whatever its body
module _ (kind : ℕ) (s : List ℕ) (at : ℕ) {r : Option ℕ} (answer : r ≡ body_if (is_record kind s at) (size_at s at)) where
  -- a body was answered: a record of this kind is there with this size
  pub is_there : {size : ℕ} → r ≡ Some size → (is_record kind s at ≡ true) × (size_at s at ≡ size)
  is_there {size} e = if_right (is_record kind s at) (size_at s at) size (sym answer ∙ e)

  -- no body was answered: no such record is there
  pub is_missing : r ≡ None → is_record kind s at ≡ false
  is_missing e = if_wrong (is_record kind s at) (size_at s at) (sym answer ∙ e)

-- of one whose body passes a test
module _ (kind : ℕ) (test : List ℕ → Bool) (s : List ℕ) (at : ℕ) {r : Option ℕ} (answer : r ≡ body_if (is_right kind test s at) (size_at s at)) where
  -- a body was answered: the record is there and its body passes the test
  pub is_right_lem : {size : ℕ} → r ≡ Some size → RightRecord kind test s at size
  is_right_lem {size} e =
      let p = if_right (is_right kind test s at) (size_at s at) size (sym answer ∙ e) in
      subst (RightRecord kind test s at) p.1 (right_parts kind test s at p.0)

  -- no body was answered: the record is not there, or its body fails the test
  pub is_wrong : r ≡ None → is_right kind test s at ≡ false
  is_wrong e = if_wrong (is_right kind test s at) (size_at s at) (sym answer ∙ e)

-- no body was answered: the offset that is refused is the one that was named
pub refused_at : {o : Option ℕ} {named w : WrongRecord} → ◌≡◌ {A = Result ℕ WrongRecord} (Err w) (ok_or o named) → o ≡ None → w ≡ named
refused_at {named = named} {w = w} e none =
    let same : ◌≡◌ {A = Result ℕ WrongRecord} (Err w) (Err named) = rw none at e in cc

-- ---- the two records at the front
-- settings and triangles are right, and the triangles' body has this size
pub record Opened (s : List ℕ) (size : ℕ) : Type 0 where
  pub settings : RightRecord 1 settings_right s 0 8
  pub triangles : RightRecord 2 (triangles_right (little_at 2 s 6)) s 14 size

both_right : (settings triangles : Bool) (n size : ℕ) → opening_if settings triangles n ≡ Ok size
    → (settings ≡ true) × (triangles ≡ true) × (n ≡ size)
both_right true true n size e = (refl, refl, (cc))
both_right true false n size e = ((cc), (cc), (cc))
both_right false triangles n size e = ((cc), (cc), (cc))

module _ (s : List ℕ) where
  abbrev suited : List ℕ → Bool
  suited = triangles_right (little_at 2 s 6)

  -- a size was answered: both records are right
  pub is_opened : {size : ℕ} → opening_of s ≡ Ok size → Opened s size
  is_opened {size} e =
      let p = both_right (is_right 1 settings_right s 0) (is_right 2 suited s 14) (size_at s 14) size e in
      record { settings = settings_right_lem s p.0; triangles = subst (RightRecord 2 suited s 14) p.2 (right_parts 2 suited s 14 p.1) }

  module _ (next : List ℕ → Wants) where
    first_wrong : (settings triangles : Bool) → is_right 1 settings_right s 0 ≡ settings → is_right 2 suited s 14 ≡ triangles
        → (n : ℕ) (w : WrongRecord) → opening_if settings triangles n ≡ Err w → laid_out (opening next) s 0 ≡ wrong w.at
    first_wrong false triangles e f n w g = reach_wrong (reach_start (opening next) s) e ∙ ap wrong (cc)
    first_wrong true false e f n w g = triangles_wrong next (settings_right_lem s e) f ∙ ap wrong (cc)
    first_wrong true true e f n w g = cc

    -- an offset was answered: it is that of the first wrong record, whatever is wanted behind the two
    pub not_opened : {w : WrongRecord} → opening_of s ≡ Err w → laid_out (opening next) s 0 ≡ wrong w.at
    not_opened {w} e = first_wrong (is_right 1 settings_right s 0) (is_right 2 suited s 14) refl refl (size_at s 14) w e

-- ---- behind the two records of an image
module _ {s : List ℕ} {size order node : ℕ} (next : TreeNext s size order node) where
  abbrev t : ℕ
  t = size / 36

  -- the order entries and the nodes come next
  pub tree_next : Reached image_wants s (record { start = 6; size = 8 } ∷ record { start = 20; size = size } ∷ [])
      (one 3 (exactly order) (λ _. one 4 (whole node) (λ _. done))) (20 + size)
  tree_next =
      let o = is_opened s next.front in
      rw (next.order_is, next.node_is) (tree_wanted o.settings o.triangles)

  -- and the counts put the bodies where the headers do
  pub tree_spans : (nodes : ℕ) → nodes % node ≡ 0
      → image_spans (version_for t) t (nodes / node)
      ≡ record { start = 6; size = 8 } ∷ record { start = 20; size = size } ∷ record { start = 20 + size + 6; size = order }
      ∷ record { start = 20 + size + 6 + order + 6; size = nodes } ∷ []
  tree_spans nodes e =
      let o = is_opened s next.front in
      let f : nodes % node_size (version_for t) ≡ 0 = rw (← next.node_is) e in
      rw (next.order_is, next.node_is)
      (image_spans_lem (version_for t) size nodes (version_triangle t) (triangles_whole (little_at 2 s 6) s 14 o.triangles) f)

-- ---- behind the points of an input of `gauge`
-- where the distance is right too, a rule may come next
pub rule_next : {s : List ℕ} {size points : ℕ} → opening_of s ≡ Ok size → RightRecord 5 (whole 12) s (20 + size) points
    → is_right 6 (exactly 4) s (20 + size + 6 + points) ≡ true
    → Reached gauge_wants s
    (record { start = 6; size = 8 } ∷ record { start = 20; size = size } ∷ record { start = 20 + size + 6; size = points }
    ∷ record { start = 20 + size + 6 + points + 6; size = 4 } ∷ [])
    rule_wants (20 + size + 6 + points + 6 + 4)
rule_next {s} {size} {points} e touched distance =
    let o = is_opened s e in
    reach_on (reach_on (opened query_wants o.settings o.triangles) touched) (exactly_right 6 4 s (20 + size + 6 + points) distance)
