-- What was written reads back equal, and what was read is written back byte for byte, over the records of the two public calls.
use mathlib.Core.Path.{◌≡◌, refl, sym, ap, subst, ◌∙◌}
use mathlib.Core.Bool.{true}
use mathlib.Core.List.{List}
use Prim.Native.Nat.{ℕ, ◌*◌, ◌≤◌}
use native.Mathlib.Omega.{arith}
use lib.ListN.{length, take}
use lib.Ieee.{Float, binary32}
use Rattle.spec_tables.specs.Tables.{overwrite}
use Rattle.spec_tables.proofs.Tables.{length_concat_map}
use Rattle.spec_tables.proofs.Pieces.{take_overwrite, length_singles}
use Rattle.spec_records.specs.Little.{Bytes}
use Rattle.spec_records.specs.Layouts.{Shape, version_for, nodes_start}
use Rattle.spec_lists.specs.Reading.{triangle_count}
use Rattle.spec_lists.specs.Refusals.{Verdict, passes, refused}
use Rattle.spec_lists.specs.Passed.{AllFit}
use Rattle.spec_image.specs.Image.{Image, image_bytes, links_in, sides_in, image_in}
use Rattle.spec_image.specs.Stored.{used}
use Rattle.spec_image.specs.Reading as Reading
use Rattle.spec_image.specs.Reading.{room_for}
use Rattle.spec_image.specs.Writing as Writing
use Rattle.spec_image.specs.Writing.{version_of, exact_size, write_refusal, answered, image_written, bytes_after}
use Rattle.spec_image.proofs.Sizes.{length_links, length_box}
use Rattle.spec_image.proofs.Used.{used_bytes}
use Rattle.spec_image.proofs.Writing.{Good, used_good, write_passed, write_passes}
use Rattle.spec_image.proofs.Kept.{good_long, written_front, written_back, written_held, read_settings, read_back}
use Rattle.std.specs.Prelude.{Result, Ok}
use Rattle.lists.specs.declared.refusal.Refusal.{Refusal}
use Rattle.lists.specs.declared.settings.Settings.{Settings}
use Rattle.lists.specs.Values.{as_settings}
use Rattle.image.specs.declared.read.ImageRead.{ImageRead}
use Rattle.image.specs.Values.{image_of, rooms_in, answer_of, ListsRead, ReadIs, WrittenIs}

-- ---- an answer of n bytes: the tests passed, and n is the exact size
wrote_parts : (v : Verdict) (size n : ℕ) → Writing.wrote n ≡ answered v size → (v ≡ passes) × (n ≡ size)
wrote_parts passes size n e = (refl, cc)
wrote_parts (refused number place) size n e = absurd (let z : ◌≡◌ {A = ℕ} 0 1 = cc in omega arith)

module _ (x : Image) {out out' : List ℕ} {n : ℕ} (w : WrittenIs x (Ok n) out out') where
  accepts : write_refusal x (length out) ≡ passes
  unfolding image_written
  accepts = (wrote_parts (write_refusal x (length out)) (exact_size x) n w.answer).0

  sized : n ≡ exact_size x
  unfolding image_written
  sized = (wrote_parts (write_refusal x (length out)) (exact_size x) n w.answer).1

  good : Good x
  good = (write_passed x (length out) accepts).0

  room : exact_size x ≤ length out
  room = (write_passed x (length out) accepts).1

  bytes_are : out' ≡ overwrite 0 (image_bytes (version_of x) x) out
  unfolding bytes_after
  bytes_are = rw accepts at w.filled

-- ---- what reading an image that was written answers, and what the lists then hold: at their fronts what was written, behind it what they held
pub record ReadBack (x : Image) (r : Result ImageRead Refusal)
    (t : List Float) (o l : List ℕ) (b t' : List Float) (o' l' : List ℕ) (b' : List Float) : Type 0 where
  -- what it answers
  pub answer : answer_of r ≡ Reading.holds x.settings (triangle_count x.triangles) x.nodes
  -- what the lists hold
  pub lists : ListsRead (used x) t o l b t' o' l' b'

-- the n bytes that were written, into lists with room
pub written_then_read : (x : Image) → AllFit binary32 x.triangles → {out out' : List ℕ} {n : ℕ} → WrittenIs x (Ok n) out out'
    → {r : Result ImageRead Refusal} {t : List Float} {o l : List ℕ} {b t' : List Float} {o' l' : List ℕ} {b' : List Float}
    → room_for (rooms_in t o l b) (triangle_count x.triangles) x.nodes ≡ true
    → ReadIs (take n out') r t o l b t' o' l' b' → ReadBack x r t o l b t' o' l' b'
written_then_read x fit {out} {out'} {n} w {r} {t} {o} {l} {b} {t'} {o'} {l'} {b'} enough is =
    let yes = accepts x w in
    let front : take n out' ≡ image_bytes (version_of x) x = rw (sized x w, w.filled) (written_front x out yes) in
    let answer : answer_of r ≡ Reading.holds x.settings (triangle_count x.triangles) x.nodes =
    is.answer ∙ ap (λ (s : List ℕ). Reading.image_read s (rooms_in t o l b)) front ∙ written_held x (length out) fit yes (rooms_in t o l b) enough in
    let held : Reading.filled_by (take n out') (answer_of r) ≡ used x = rw (answer, front) (written_back x (length out) fit yes) in
    record { answer = answer; lists = subst (λ (y : Image). ListsRead y t o l b t' o' l' b') held is.filled }

-- ---- what was read
-- the answer of a read that passed
abbrev pub read : Settings → (count nodes : ℕ) → Result ImageRead Refusal
read settings count nodes = Ok (record { settings = settings; triangles = count; nodes = nodes })

module _ {s : List ℕ} {settings : Settings} {count nodes : ℕ} {t : List Float} {o l : List ℕ} {b t' : List Float} {o' l' : List ℕ} {b' : List Float}
    (is : ReadIs s (read settings count nodes) t o l b t' o' l' b') where
  abbrev sh : Shape
  sh = version_for count

  abbrev held : Image
  held = image_in sh s count nodes

  triangles_are : take (9 * count) t' ≡ held.triangles
  unfolding image_in
  triangles_are = rw is.filled.triangles (take_overwrite (9 * count) held.triangles t (length_singles _ (9 * count)))

  order_are : take count o' ≡ held.order
  unfolding image_in
  order_are = rw is.filled.order (take_overwrite count held.order o (length_singles _ count))

  links_are : take (3 * nodes) l' ≡ held.links
  unfolding image_in
  links_are =
      let start : ℕ = nodes_start sh count in
      rw is.filled.links (take_overwrite (3 * nodes) held.links l (length_concat_map (links_in sh s start) 3 nodes (length_links sh s start)))

  boxes_are : take (6 * nodes) b' ≡ held.boxes
  unfolding image_in
  boxes_are =
      let start : ℕ = nodes_start sh count in
      rw is.filled.boxes (take_overwrite (6 * nodes) held.boxes b (length_concat_map (sides_in sh s start) 6 nodes (length_box sh s start)))

  -- where the writer accepts what stands at the lists' fronts, it writes the image that was read
  pub read_then_written : Bytes s → {links : List ℕ} {boxes : List Float}
      → take (3 * nodes) links ≡ take (3 * nodes) l' → take (6 * nodes) boxes ≡ take (6 * nodes) b'
      → {out out' : List ℕ} {n : ℕ} → WrittenIs (image_of settings (take (9 * count) t') (take count o') links boxes nodes) (Ok n) out out'
      → (n ≡ length s) × (out' ≡ overwrite 0 s out)
  unfolding image_in
  read_then_written ok {links} {boxes} e f {out} {out'} {n} w =
      let x : Image = image_of settings (take (9 * count) t') (take count o') links boxes nodes in
      let settings_are : as_settings settings ≡ held.settings = sym (read_settings s (rooms_in t o l b) (as_settings settings) count nodes (sym is.answer)) in
      let same : used x ≡ held = λ i. record {
        settings = settings_are i;
        triangles = triangles_are i;
        order = order_are i;
        nodes = nodes;
        links = (e ∙ links_are) i;
        boxes = (f ∙ boxes_are) i;
      } in
      let yes : write_refusal held (length out) ≡ passes =
      subst (λ (y : Image). write_refusal y (length out) ≡ passes) same
      (write_passes (used x) (length out) (used_good x (good x w)) (room x w)) in
      let bytes : image_bytes (version_of x) x ≡ s =
      sym (used_bytes (version_of x) x) ∙ ap (λ (y : Image). image_bytes (version_of y) y) same
      ∙ read_back s ok (rooms_in t o l b) (as_settings settings) count nodes (sym is.answer) (length out) yes in (
        sized x w ∙ sym (good_long x (good x w)) ∙ ap length bytes,
        bytes_are x w ∙ ap (λ (y : List ℕ). overwrite 0 y out) bytes,
      )

-- ---- one tree has one image
-- what two reads of the same counts leave at the fronts of their lists
pub record SameFronts (count nodes : ℕ) (t : List Float) (o l : List ℕ) (b t₂ : List Float) (o₂ l₂ : List ℕ) (b₂ : List Float) : Type 0 where
  pub triangles : take (9 * count) t ≡ take (9 * count) t₂
  pub order : take count o ≡ take count o₂
  pub links : take (3 * nodes) l ≡ take (3 * nodes) l₂
  pub boxes : take (6 * nodes) b ≡ take (6 * nodes) b₂

-- two images that are read alike, settings, counts and lists, are the same bytes, where the writer accepts what was read
pub one_image_read : {s s₂ : List ℕ} {settings : Settings} {count nodes : ℕ}
    → {t : List Float} {o l : List ℕ} {b t' : List Float} {o' l' : List ℕ} {b' : List Float}
    → {t₂ : List Float} {o₂ l₂ : List ℕ} {b₂ t₂' : List Float} {o₂' l₂' : List ℕ} {b₂' : List Float}
    → ReadIs s (read settings count nodes) t o l b t' o' l' b' → Bytes s → ReadIs s₂ (read settings count nodes) t₂ o₂ l₂ b₂ t₂' o₂' l₂' b₂' → Bytes s₂
    → SameFronts count nodes t' o' l' b' t₂' o₂' l₂' b₂'
    → {out out' : List ℕ} {n : ℕ} → WrittenIs (image_of settings (take (9 * count) t') (take count o') l' b' nodes) (Ok n) out out'
    → s ≡ s₂
one_image_read {s} {s₂} {settings} {count} {nodes} is ok is₂ ok₂ same {out} {out'} {n} w =
    let first = read_then_written is ok refl refl w in
    let second = read_then_written is₂ ok₂ same.links same.boxes (rw (same.triangles, same.order) at w) in
    sym (take_overwrite n s out (sym first.0)) ∙ ap (take n) (sym first.1 ∙ second.1) ∙ take_overwrite n s₂ out (sym second.0)
