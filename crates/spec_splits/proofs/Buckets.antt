-- Boxes put into buckets: no count is above the number of boxes put, plain boxes make plain buckets, and the loop that puts them
-- gives what the area rule defines.
use mathlib.Core.Path.{◌≡◌, sym, ap, subst, ◌∙◌}
use mathlib.Core.List.{List, [], ◌∷◌, map, foldl}
use Prim.Native.Nat.{ℕ, zero, suc, ◌+◌, ◌^◌, ◌≤◌, ◌<◌}
use native.Mathlib.Omega.{arith}
use lib.ListN.{length, get_or, drop, set, replicate, length-map, length-set}
use lib.Ieee.{Format}
use Rattle.spec_shapes.specs.Boxes.{Box}
use Rattle.spec_shapes.specs.Plain.{PlainBox}
use Rattle.spec_shapes.proofs.Plain.{empty_plain, union_plain}
use Rattle.spec_splits.specs.Buckets.{Bucket, bucket_count, empty_bucket, empty_buckets, bucket_at, with_box, put_in, AreSmall, ArePlain}
use Rattle.spec_splits.specs.Area.{put_box, filled}
use Rattle.spec_splits.proofs.Table.{map_set, at_map}
use Rattle.spec_splits.proofs.Turns.{fold_on_named, fold_ended_named}

-- ---- what is stored, or what stood there
stored : {A : Type 0} (P : A → Type 0) (l : List A) (k j : ℕ) (v d : A) → P v → P (get_or l j d) → P (get_or (set l k v) j d)
stored P [] k j v d p q = q
stored P (a ∷ l) zero zero v d p q = p
stored P (a ∷ l) zero (suc j) v d p q = q
stored P (a ∷ l) (suc k) zero v d p q = q
stored P (a ∷ l) (suc k) (suc j) v d p q = stored P l k j v d p q

-- what holds of an element holds of each of its copies
copied : {A : Type 0} (P : A → Type 0) (a : A) → P a → (n j : ℕ) → P (get_or (replicate n a) j a)
copied P a p zero j = p
copied P a p (suc n) zero = p
copied P a p (suc n) (suc j) = copied P a p n j

-- ---- no count is above n
abbrev pub CountsAtMost : Format → List Bucket → ℕ → Type 0
CountsAtMost f buckets n = (j : ℕ) → (bucket_at f buckets j).count ≤ n

module _ (f : Format) where
  counts_none : CountsAtMost f (empty_buckets f) 0
  unfolding empty_buckets empty_bucket
  counts_none j = copied (λ (s : Bucket). s.count ≤ 0) (empty_bucket f) (omega arith) bucket_count j

  module _ (bucket : Box → ℕ) where
    counts_put : (b : Box) (buckets : List Bucket) (n : ℕ) → CountsAtMost f buckets n → CountsAtMost f (put_box f bucket buckets b) (n + 1)
    unfolding put_box put_in with_box
    counts_put b buckets n h j =
        stored (λ (s : Bucket). s.count ≤ n + 1) buckets (bucket b) j (with_box (bucket_at f buckets (bucket b)) b) (empty_bucket f)
        (omega (arith, h (bucket b)))
        (omega (arith, h j))

    counts_all : (bs : List Box) (buckets : List Bucket) (n : ℕ) → CountsAtMost f buckets n
        → CountsAtMost f (foldl (put_box f bucket) buckets bs) (n + length bs)
    counts_all [] buckets n h j = omega (arith, h j)
    counts_all (b ∷ bs) buckets n h j = omega (arith, counts_all bs (put_box f bucket buckets b) (n + 1) (counts_put b buckets n h) j)

    -- fewer than 2^28 boxes fill buckets whose counts may be added up
    pub filled_small : (bs : List Box) → length bs < 2 ^ 28 → AreSmall f (filled f bucket bs)
    unfolding filled
    filled_small bs h j = omega (arith, counts_all bs (empty_buckets f) 0 counts_none j)

-- ---- no box has a NaN or a -0
module _ (f : Format) where
  plain_none : ArePlain f (empty_buckets f)
  unfolding empty_buckets empty_bucket
  plain_none j = copied (λ (s : Bucket). PlainBox f s.bounds) (empty_bucket f) (empty_plain f) bucket_count j

  module _ (bucket : Box → ℕ) (box : ℕ → Box) where
    plain_put : (b : Box) (buckets : List Bucket) → PlainBox f b → ArePlain f buckets → ArePlain f (put_box f bucket buckets b)
    unfolding put_box put_in with_box
    plain_put b buckets B h j =
        stored (λ (s : Bucket). PlainBox f s.bounds) buckets (bucket b) j _ (empty_bucket f) (union_plain f _ _ (h (bucket b)) B) (h j)

    plain_all : (slice : List ℕ) (buckets : List Bucket) → ((i : ℕ) → i < length slice → PlainBox f (box (get_or slice i 0))) → ArePlain f buckets
        → ArePlain f (foldl (put_box f bucket) buckets (map box slice))
    plain_all [] buckets all h = h
    plain_all (t ∷ slice) buckets all h =
        plain_all slice _ (λ (i : ℕ) (k : i < length slice). all (suc i) (omega arith)) (plain_put (box t) buckets (all 0 (omega arith)) h)

    -- plain boxes of a slice of the order list fill buckets with plain bounds: the costs need them so
    pub filled_plain : (slice : List ℕ) → ((i : ℕ) → i < length slice → PlainBox f (box (get_or slice i 0)))
        → ArePlain f (filled f bucket (map box slice))
    unfolding filled
    filled_plain slice all = plain_all slice (empty_buckets f) all plain_none

-- ---- a loop that puts the boxes of a slice into buckets; g is what a stored bucket stands for, and `box` what a number of the slice does
module _ {A : Type 0} (g : A → Bucket) (f : Format) (bucket : Box → ℕ) (box : ℕ → Box) (slice : List ℕ) where
  -- i boxes are put
  pub record Filling (each : List A) (i : ℕ) : Type 0 where
    pub full : length each ≡ bucket_count
    pub counts : CountsAtMost f (map g each) i
    pub fills : foldl (put_box f bucket) (map g each) (map box (drop i slice)) ≡ filled f bucket (map box slice)

  -- before the first turn: empty buckets
  pub filling_starts : (each : List A) → map g each ≡ empty_buckets f → Filling each 0
  unfolding filled empty_buckets
  filling_starts each e = record {
    full = sym (length-map each g) ∙ ap length e;
    counts = subst (λ (l : List Bucket). CountsAtMost f l 0) (sym e) (counts_none f);
    fills = ap (λ (l : List Bucket). foldl (put_box f bucket) l (map box slice)) e;
  }

  module _ (each : List A) (i k : ℕ) (d : A) (now : Filling each i) (below : k < bucket_count) where
    -- what a turn needs: the bucket that is taken out counts few enough for one more
    pub filling_small : i < length slice → length slice < 2 ^ 28 → (g (get_or each k d)).count < 2 ^ 28
    filling_small h small =
        let at = ap (λ (s : Bucket). s.count) (at_map g each k d (empty_bucket f) (rw now.full below)) in
        omega (arith, at, now.counts k)

    -- the bucket that the next box falls into, with that box, stored in its place
    put_stored : (v : A) (b c : Box) → k ≡ bucket b → g v ≡ with_box (g (get_or each k d)) c → c ≡ b → map g (set each k v) ≡ put_box f bucket (map g each) b
    unfolding put_box put_in
    put_stored v b c e w same =
        map_set g each k v
        ∙ ap (set (map g each) k)
        (w ∙ ap (with_box (g (get_or each k d))) same ∙ ap (λ (s : Bucket). with_box s b) (sym (at_map g each k d (empty_bucket f) (rw now.full below))))
        ∙ ap (λ (n : ℕ). set (map g each) n (with_box (bucket_at f (map g each) n) b)) e

    -- after a turn, which stores the bucket of the next box with that box in it
    pub filling_goes_on : (v : A) (c : Box) → i < length slice → k ≡ bucket (box (get_or slice i 0)) → g v ≡ with_box (g (get_or each k d)) c
        → c ≡ box (get_or slice i 0) → Filling (set each k v) (i + 1)
    filling_goes_on v c h e w same =
        let put = put_stored v (box (get_or slice i 0)) c e w same in
        record {
          full = length-set each k v ∙ now.full;
          counts = subst (λ (l : List Bucket). CountsAtMost f l (i + 1)) (sym put) (counts_put f bucket (box (get_or slice i 0)) (map g each) i now.counts);
          fills = fold_on_named (put_box f bucket) box slice i (map g each) _ (map g (set each k v)) h put now.fills;
        }

  -- after the last turn the buckets are the area rule's
  pub filling_ends : (each : List A) (i : ℕ) → length slice ≤ i → Filling each i → map g each ≡ filled f bucket (map box slice)
  filling_ends each i h now = fold_ended_named (put_box f bucket) box slice i (map g each) _ h now.fills
