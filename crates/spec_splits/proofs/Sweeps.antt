-- The sides of the cuts by two sweeps: the left ones gathered going up, the right ones going down, so that each bucket is merged once
-- a side. Plain boxes may be joined in any order, so the sweep that goes down has the sides that the rule defines, merged going up.
use mathlib.Core.Path.{◌≡◌, refl, sym, ap, ◌∙◌}
use mathlib.Core.Bool.{Bool, true, false}
use mathlib.Core.List.{List, [], ◌∷◌, map, foldl, foldl-append}
use Prim.Native.Nat.{ℕ, zero, suc, ◌+◌, ◌*◌, ◌^◌, ◌≤◌, ◌<◌}
use native.Mathlib.Numerals.{add-one}
use native.Mathlib.Omega.{arith}
use lib.ListN.{length, get_or, take, drop, set, length-map, length-set, drop_of_length-le}
use lib.Seq.{slice, take_all, take-suc, drop-cons, get_or-drop}
use lib.IntN.{pos}
use lib.Ieee.{Format, binary32, fin, lt}
use Rattle.spec_shapes.specs.Points.{by_axis, smallest}
use Rattle.spec_shapes.specs.Boxes.{empty, union}
use Rattle.spec_shapes.specs.Plain.{PlainBox}
use Rattle.spec_shapes.proofs.Plain.{empty_plain, union_plain, union_swap}
use Rattle.spec_splits.specs.Buckets.{Bucket, bucket_count, empty_bucket, empty_buckets, bucket_at, merged, side_of, side_down, sides_down, AreSmall, ArePlain}
use Rattle.spec_splits.proofs.Table.{map_set, at_map}

module _ (f : Format) where
  abbrev PlainBucket : Bucket → Type 0
  PlainBucket s = PlainBox f s.bounds

  merged_plain : (a b : Bucket) → PlainBucket a → PlainBucket b → PlainBucket (merged a b)
  unfolding merged
  merged_plain a b A B = union_plain f a.bounds b.bounds A B

  merged_swap : (a b c : Bucket) → PlainBucket a → PlainBucket b → PlainBucket c → merged (merged a b) c ≡ merged (merged a c) b
  unfolding merged
  merged_swap a b c A B C =
      let counts : a.count + b.count + c.count ≡ a.count + c.count + b.count = omega arith in
      λ j. record { count = counts j; bounds = union_swap f a.bounds b.bounds c.bounds A B C j }

  -- what is merged first may as well be merged last
  merged_last : (bs : List Bucket) (a b : Bucket) → PlainBucket a → PlainBucket b → ArePlain f bs
      → foldl merged (merged a b) bs ≡ merged (foldl merged a bs) b
  merged_last [] a b A B all = refl
  merged_last (c ∷ cs) a b A B all =
      ap (λ (s : Bucket). foldl merged s cs) (merged_swap a b c A B (all 0))
      ∙ merged_last cs (merged a c) b (merged_plain a c A (all 0)) B (λ (k : ℕ). all (suc k))

  -- going down gives the side that going up gives, its box bit for bit
  pub down_is_up : (bs : List Bucket) → ArePlain f bs → side_down f bs ≡ side_of f bs
  unfolding side_down side_of empty_bucket
  down_is_up [] all = refl
  down_is_up (b ∷ bs) all =
      let rest : ArePlain f bs = λ (k : ℕ). all (suc k) in
      ap (λ (s : Bucket). merged s b) (down_is_up bs rest) ∙ sym (merged_last bs (empty_bucket f) b (empty_plain f) (all 0) rest)

  side_at : (l : List Bucket) (k : ℕ) → bucket_at f (sides_down f l) k ≡ side_down f (drop (suc k) l)
  unfolding side_down sides_down
  side_at [] k = refl
  side_at (b ∷ bs) zero = refl
  side_at (b ∷ bs) (suc k) = side_at bs k

  -- so the sweep that goes down has the right side of each cut as the cost needs it
  pub right_side : (l : List Bucket) (k : ℕ) → length l ≡ bucket_count → ArePlain f l
      → bucket_at f (sides_down f l) k ≡ side_of f (slice (k + 1) bucket_count l)
  right_side l k full plain =
      let rest : ArePlain f (drop (suc k) l) = λ (j : ℕ). rw (get_or-drop (suc k) l j (empty_bucket f)) (plain (suc k + j)) in
      side_at l k ∙ down_is_up (drop (suc k) l) rest ∙ sym (rw (add-one k, take_all bucket_count l (omega (arith, full))) refl)

-- ---- why plain: a -0 would show the way that was taken. Of 0 in front and -0 behind, going up keeps 0, going down -0
signed : Bool → Bucket
signed s = let zeros = by_axis (λ i. fin s 0 (pos 0)) in record { count = 1; bounds = record { min = zeros; max = zeros } }

abbrev zeros : List Bucket
zeros = signed false ∷ signed true ∷ []

up_keeps_front : (side_of binary32 zeros).bounds.min.x ≡ fin false 0 (pos 0)
unfolding signed side_of empty_bucket empty merged union smallest lt
up_keeps_front = refl

down_keeps_behind : (side_down binary32 zeros).bounds.min.x ≡ fin true 0 (pos 0)
unfolding signed side_down empty_bucket empty merged union smallest lt
down_keeps_behind = refl

-- from where something is stored on: that, and what stood behind it
drop_set : {A : Type 0} (l : List A) (j : ℕ) (a : A) → j < length l → drop j (set l j a) ≡ a ∷ drop (suc j) l
drop_set [] j a h = absurd (omega arith)
drop_set (x ∷ xs) zero a h = refl
drop_set (x ∷ xs) (suc j) a h = drop_set xs j a (omega arith)

-- ---- the loops; g is what a stored bucket stands for
module _ {A : Type 0} (g : A → Bucket) (f : Format) (each : List A) where
  -- going down: behind bucket i stands `right`, and the sides from there on are stored
  pub record Down (sides : List A) (right : Bucket) (i : ℕ) : Type 0 where
    pub within : i < bucket_count
    pub small : right.count + i * 2 ^ 28 ≤ 11 * 2 ^ 28
    pub is : right ≡ side_down f (drop (suc i) (map g each))
    pub room : length sides ≡ bucket_count
    pub swept : drop i (map g sides) ≡ sides_down f (drop i (map g each))

  -- going up: before bucket i stands `left`
  pub record Up (left : Bucket) (i : ℕ) : Type 0 where
    pub within : i < bucket_count
    pub small : left.count ≤ i * 2 ^ 28
    pub is : left ≡ side_of f (take i (map g each))

module _ {A : Type 0} (g : A → Bucket) (f : Format) (each : List A) (d : A) (full : length each ≡ bucket_count) where
  abbrev buckets : List Bucket
  buckets = map g each

  long : length buckets ≡ bucket_count
  long = length-map each g ∙ full

  bucket_read : (i : ℕ) → i < bucket_count → bucket_at f buckets i ≡ g (get_or each i d)
  bucket_read i h = at_map g each i d (empty_bucket f) (omega (arith, full))

  bucket_count_lem : (i : ℕ) → i < bucket_count → (bucket_at f buckets i).count ≡ (g (get_or each i d)).count
  bucket_count_lem i h = ap (λ (s : Bucket). s.count) (bucket_read i h)

  -- what is read and merged to a side is the bucket
  bucket_merged : (i : ℕ) → i < bucket_count → (now side next : Bucket) → now ≡ side → next ≡ merged now (g (get_or each i d))
      → next ≡ merged side (bucket_at f buckets i)
  bucket_merged i h now side next is e = e ∙ rw (is, bucket_read i h) refl

  -- ---- down
  behind : (i : ℕ) → i < bucket_count → drop i buckets ≡ bucket_at f buckets i ∷ drop (suc i) buckets
  behind i h = drop-cons buckets i (empty_bucket f) (omega (arith, long))

  none_behind : drop 12 buckets ≡ []
  none_behind = drop_of_length-le buckets {i = 12} (omega (arith, long))

  -- before the first turn: nothing stands behind the last bucket
  pub down_starts : (sides : List A) (right : Bucket) → map g sides ≡ empty_buckets f → right ≡ empty_bucket f → Down g f each sides right 11
  unfolding empty_buckets empty_bucket side_down sides_down
  down_starts sides right e r = record {
    within = omega arith;
    small = let none : right.count ≡ 0 = ap (λ (s : Bucket). s.count) r in omega arith;
    is = r ∙ sym (ap (side_down f) none_behind);
    room = sym (length-map sides g) ∙ ap length e;
    swept = ap (drop 11) e ∙ sym (rw (behind 11 (omega arith), none_behind) refl);
  }

  module _ (sides : List A) (right : Bucket) (i : ℕ) (now : Down g f each sides right i) (small : AreSmall f buckets) where
    -- what a turn's merging needs: the two counts add up within 32 bits
    pub down_fits : right.count + (g (get_or each i d)).count < 2 ^ 32
    down_fits = omega (arith, bucket_count_lem i now.within, small i, now.small)

    module _ (v : A) (j : ℕ) (same : j + 1 ≡ i) (e : g v ≡ merged right (g (get_or each i d))) where
      after : i ≡ suc j
      after = sym same ∙ add-one j

      is_on : g v ≡ side_down f (drop (suc j) buckets)
      unfolding side_down
      is_on =
          bucket_merged i now.within right _ (g v) now.is e
          ∙ sym (ap (side_down f) (behind i now.within))
          ∙ ap (λ (n : ℕ). side_down f (drop n buckets)) after

      swept_on : drop j (map g (set sides j v)) ≡ sides_down f (drop j buckets)
      unfolding sides_down
      swept_on =
          ap (drop j) (map_set g sides j v)
          ∙ drop_set (map g sides) j (g v) (omega (arith, length-map sides g, now.room, now.within))
          ∙ rw (is_on, rw after at now.swept, behind j (omega (arith, now.within))) refl

      -- after a turn, which merges bucket i and stores the side behind the one before it
      pub down_goes_on : Down g f each (set sides j v) (g v) j
      unfolding merged
      down_goes_on =
          let sum : (g v).count ≡ right.count + (g (get_or each i d)).count = ap (λ (s : Bucket). s.count) e in
          record {
            within = omega (arith, now.within);
            small = omega (arith, bucket_count_lem i now.within, small i, now.small);
            is = is_on;
            room = length-set sides j v ∙ now.room;
            swept = swept_on;
          }

  -- after the last turn every side is stored
  pub down_ends : (sides : List A) (right : Bucket) (i : ℕ) → Down g f each sides right i → i ≤ 0 → map g sides ≡ sides_down f buckets
  down_ends sides right i now h = let none : i ≡ 0 = omega arith in rw none at now.swept

  -- ---- up
  -- before the first turn: nothing stands before the first bucket
  pub up_starts : (left : Bucket) → left ≡ empty_bucket f → Up g f each left 0
  unfolding empty_bucket side_of
  up_starts left e = record {
    within = omega arith;
    small = let none : left.count ≡ 0 = ap (λ (s : Bucket). s.count) e in omega arith;
    is = e;
  }

  module _ (left : Bucket) (i : ℕ) (now : Up g f each left i) (small : AreSmall f buckets) where
    -- what a turn's merging needs: the two counts add up within 32 bits
    pub up_fits : left.count + (g (get_or each i d)).count < 2 ^ 32
    up_fits = omega (arith, bucket_count_lem i now.within, small i, now.small, now.within)

    module _ (next : Bucket) (e : next ≡ merged left (g (get_or each i d))) where
      -- the left side of the cut after bucket i as the cost needs it
      pub left_side : next ≡ side_of f (slice 0 (i + 1) buckets)
      unfolding side_of
      left_side =
          bucket_merged i now.within left _ next now.is e
          ∙ sym (foldl-append merged (empty_bucket f) (take i buckets) (bucket_at f buckets i ∷ []))
          ∙ sym (rw (add-one i, take-suc buckets i (empty_bucket f) (omega (arith, long, now.within))) refl)

      -- after a turn, which merges bucket i
      pub up_goes_on : i < 11 → Up g f each next (i + 1)
      unfolding merged
      up_goes_on h =
          let sum : next.count ≡ left.count + (g (get_or each i d)).count = ap (λ (s : Bucket). s.count) e in
          record {
            within = omega arith;
            small = omega (arith, bucket_count_lem i now.within, small i, now.small);
            is = left_side;
          }
