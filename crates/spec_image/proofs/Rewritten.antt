-- An image that was read is written back byte for byte, where no float in it is a NaN: a NaN is read from many patterns, and written as one.
use mathlib.Core.Path.{◌≡◌, refl, sym, ap, ◌∙◌, subst}
use mathlib.Core.List.{List, ◌++◌, append_assoc}
use Prim.Native.Nat.{ℕ, ◌+◌, ◌*◌, ◌%◌, ◌^◌, ◌≤◌, ◌<◌}
use native.Mathlib.Omega.{arith}
use lib.ListN.{length, drop}
use lib.Seq.{take-length}
use lib.Ieee.{Float}
use Rattle.spec_tables.specs.Tables.{concat_map, slice, Remaining}
use Rattle.spec_tables.proofs.Tables.{length_concat_map, concat_map_same, slice_concat_map, remaining_front}
use Rattle.spec_tables.proofs.Pieces.{piece_within, length_slice, slice_then, concat_map_slices_at, length_singles, remaining_on, remaining_slice}
use Rattle.spec_records.specs.Little.{little, little_at, Bytes}
use Rattle.spec_records.specs.Entries.{float_size, number_bytes, float_bytes, numbers_in, floats_in, NoNan}
use Rattle.spec_records.specs.Records.{size_at, header, record_of}
use Rattle.spec_records.specs.Layouts.{Shape, triangle_size, node_size, order_start, nodes_start, image_size}
use Rattle.spec_records.proofs.Little.{number_back}
use Rattle.spec_records.proofs.Entries.{numbers_written, floats_written}
use Rattle.spec_image.specs.Image.{settings_bytes, node_bytes, image_bytes, leaf_in, settings_in, links_in, sides_in, image_in}
use Rattle.spec_image.specs.Stored.{ImageIs}
use Rattle.spec_image.proofs.Versions.{leaf_bytes}
use Rattle.spec_image.proofs.Sizes.{length_links, length_box}

-- what is written of two parts that stand one behind the other
written_then : (s : List ℕ) (at m n next : ℕ) (a b : List ℕ) → next ≡ at + m → a ≡ slice s at m → b ≡ slice s next n → a ++ b ≡ slice s at (m + n)
written_then s at m n next a b e p q = rw (p, q, e) (slice_then s at m n)

module _ (s : List ℕ) (ok : Bytes s) where
  record_written : (kind size at : ℕ) (body : List ℕ) → size_at s at ≡ size → little_at 2 s (at + 4) ≡ kind → body ≡ slice s (at + 6) size
      → at + 6 + size ≤ length s
      → record_of kind body ≡ slice s at (6 + size)
  unfolding record_of header
  record_written kind size at body e k b room =
      let long : length body ≡ size = ap length b ∙ length_slice s (at + 6) size room in
      let first : little 4 (length body) ≡ slice s at 4 = ap (little 4) (long ∙ sym e) ∙ number_back 4 s at ok (omega arith) in
      let second : little 2 kind ≡ slice s (at + 4) 2 = ap (little 2) (sym k) ∙ number_back 2 s (at + 4) ok (omega arith) in
      written_then s at 6 size (at + 6) (little 4 (length body) ++ little 2 kind) body refl
      (written_then s at 4 2 (at + 4) (little 4 (length body)) (little 2 kind) refl first second) b

  settings_written : (sh : Shape) → sh.zero_leaf % 256 ^ 2 ≡ 0 → little_at 2 s 6 ≡ sh.version → 14 ≤ length s
      → settings_bytes sh (settings_in sh s) ≡ slice s 6 8
  unfolding settings_bytes settings_in
  settings_written sh zero v room =
      let a : little 2 sh.version ≡ slice s 6 2 = ap (little 2) (sym v) ∙ number_back 2 s 6 ok (omega arith) in
      let b : little 2 (little_at 2 s 8) ≡ slice s 8 2 = number_back 2 s 8 ok (omega arith) in
      let c : little 2 (leaf_in sh (little_at 2 s 10)) ≡ slice s 10 2 = leaf_bytes sh (little_at 2 s 10) zero ∙ number_back 2 s 10 ok (omega arith) in
      let d : little 2 (little_at 2 s 12) ≡ slice s 12 2 = number_back 2 s 12 ok (omega arith) in
      written_then s 6 6 2 12 _ _ refl (written_then s 6 4 2 10 _ _ refl (written_then s 6 2 2 8 _ _ refl a b) c) d

  -- a node, in the lists that were read
  module _ (sh : Shape) (start n : ℕ) (room : start + node_size sh * n ≤ length s) where
    abbrev links : List ℕ
    links = concat_map (links_in sh s start) n

    abbrev boxes : List Float
    boxes = concat_map (sides_in sh s start) n

    module _ (numbers : NoNan boxes (6 * n)) (i : ℕ) (l : i < n) where
      abbrev at : ℕ
      at = start + node_size sh * i

      within : at + node_size sh ≤ length s
      within = omega (arith, piece_within (node_size sh) n i l)

      abbrev kind : List ℕ
      kind = numbers_in 2 s at 1

      abbrev sides : List ℕ
      sides = numbers_in sh.entry s (at + 2) 2

      abbrev rest : List ℕ
      rest = drop (3 * i + length (links_in sh s start i)) links

      links_remaining : Remaining links (3 * i) (kind ++ (sides ++ rest))
      unfolding links_in
      links_remaining =
          let long : length links ≡ 3 * n = length_concat_map (links_in sh s start) 3 n (length_links sh s start) in
          let here : length (links_in sh s start i) ≡ 3 = length_links sh s start i in
          subst (Remaining links (3 * i)) (append_assoc kind sides rest)
          (remaining_slice links (3 * i) (links_in sh s start i) (omega arith)
          (ap (slice links (3 * i)) here ∙ slice_concat_map (links_in sh s start) 3 n i (length_links sh s start) l))

      kind_written : number_bytes 2 links (3 * i) 1 ≡ slice s at 2
      kind_written =
          let e : slice links (3 * i) 1 ≡ kind = ap (slice links (3 * i)) (sym (length_singles _ 1)) ∙ remaining_front links (3 * i) kind _ links_remaining in
          numbers_written 2 links (3 * i) s at 1 ok (omega (arith, within)) e

      sides_written : number_bytes sh.entry links (3 * i + 1) 2 ≡ slice s (at + 2) (sh.entry * 2)
      sides_written =
          let back : Remaining links (3 * i + 1) (sides ++ rest) = remaining_on 1 links (3 * i) kind _ (length_singles _ 1) links_remaining in
          let e : slice links (3 * i + 1) 2 ≡ sides = ap (slice links (3 * i + 1)) (sym (length_singles _ 2))
          ∙ remaining_front links (3 * i + 1) sides _ back in
          numbers_written sh.entry links (3 * i + 1) s (at + 2) 2 ok (omega (arith, within)) e

      box_written : float_bytes sh.float boxes (6 * i) 6 ≡ slice s (at + (2 + 2 * sh.entry)) (float_size sh.float * 6)
      unfolding sides_in
      box_written =
          let six : 6 * i + 6 ≤ 6 * n = piece_within 6 n i l in
          let e : slice boxes (6 * i) 6 ≡ sides_in sh s start i = slice_concat_map (sides_in sh s start) 6 n i (length_box sh s start) l in
          floats_written sh.float boxes (6 * i) s (at + (2 + 2 * sh.entry)) 6 ok (omega (arith, within)) (λ j k. numbers j (omega arith)) e

      node_written : node_bytes sh links boxes i ≡ slice s at (node_size sh)
      unfolding node_bytes
      node_written =
          let size : 2 + sh.entry * 2 + float_size sh.float * 6 ≡ node_size sh = omega arith in
          let place : at + (2 + 2 * sh.entry) ≡ at + (2 + sh.entry * 2) = omega arith in
          written_then s at (2 + sh.entry * 2) (float_size sh.float * 6) (at + (2 + 2 * sh.entry)) _ _ place
          (written_then s at 2 (sh.entry * 2) (at + 2) _ _ refl kind_written sides_written) box_written
          ∙ ap (slice s at) size

  -- an image that is right, and whose floats are numbers, is what is written of what was read
  pub rewritten : (sh : Shape) (t n : ℕ) → sh.zero_leaf % 256 ^ 2 ≡ 0 → ImageIs sh s t n
      → NoNan (image_in sh s t n).triangles (9 * t) → NoNan (image_in sh s t n).boxes (6 * n) → image_bytes sh (image_in sh s t n) ≡ s
  unfolding image_bytes image_in
  rewritten sh t n zero is corners bounds =
      let third : ℕ = 20 + triangle_size sh * t in
      let fourth : ℕ = order_start sh t + sh.entry * t in
      let long : image_size sh t n ≡ length s = is.long in
      let all : List Float = floats_in sh.float s 20 (9 * t) in
      let size₂ : float_size sh.float * (9 * t) ≡ triangle_size sh * t = omega arith in
      let r₁ : record_of 1 (settings_bytes sh (settings_in sh s)) ≡ slice s 0 14 =
      record_written 1 8 0 _ is.size1 is.kind1 (settings_written sh zero is.version (omega arith)) (omega arith) in
      let l₂ : length all ≡ 9 * t = length_singles _ (9 * t) in
      let f₂ : float_bytes sh.float all 0 (9 * t) ≡ slice s 20 (triangle_size sh * t) =
      floats_written sh.float all 0 s 20 (9 * t) ok (omega arith) (λ i l. corners i (omega arith)) (ap (slice all 0) (sym l₂) ∙ take-length all)
      ∙ ap (slice s 20) size₂ in
      let r₂ : record_of 2 (float_bytes sh.float all 0 (9 * t)) ≡ slice s 14 (6 + triangle_size sh * t) =
      record_written 2 (triangle_size sh * t) 14 _ is.size2 is.kind2 f₂ (omega arith) in
      let order : List ℕ = numbers_in sh.entry s (order_start sh t) t in
      let l₃ : length order ≡ t = length_singles _ t in
      let f₃ : number_bytes sh.entry order 0 t ≡ slice s (order_start sh t) (sh.entry * t) =
      numbers_written sh.entry order 0 s (order_start sh t) t ok (omega arith) (ap (slice order 0) (sym l₃) ∙ take-length order) in
      let r₃ : record_of 3 (number_bytes sh.entry order 0 t) ≡ slice s third (6 + sh.entry * t) =
      record_written 3 (sh.entry * t) third _ is.size3 is.kind3 f₃ (omega arith) in
      let nodes : List ℕ = concat_map (node_bytes sh (concat_map (links_in sh s (nodes_start sh t)) n) (concat_map (sides_in sh s (nodes_start sh t)) n)) n in
      let f₄ : nodes ≡ slice s (nodes_start sh t) (node_size sh * n) =
      concat_map_same _ (λ i. slice s (nodes_start sh t + node_size sh * i) (node_size sh)) n (node_written sh (nodes_start sh t) n (omega arith) bounds)
      ∙ concat_map_slices_at (node_size sh) s (nodes_start sh t) n in
      let r₄ : record_of 4 nodes ≡ slice s fourth (6 + node_size sh * n) = record_written 4 (node_size sh * n) fourth _ is.size4 is.kind4 f₄ (omega arith) in
      let whole : 14 + (6 + triangle_size sh * t) + (6 + sh.entry * t) + (6 + node_size sh * n) ≡ length s = omega arith in
      let two = written_then s 0 14 (6 + triangle_size sh * t) 14 _ _ refl r₁ r₂ in
      let three = written_then s 0 (14 + (6 + triangle_size sh * t)) (6 + sh.entry * t) third _ _ (omega arith) two r₃ in
      let four = written_then s 0 (14 + (6 + triangle_size sh * t) + (6 + sh.entry * t)) (6 + node_size sh * n) fourth _ _ (omega arith) three r₄ in
      rw (l₂, l₃) (four ∙ ap (slice s 0) whole ∙ take-length s)
