-- What reading an image answers and leaves, put together from its steps.
use mathlib.Core.Path.{◌≡◌, sym, ap, ◌∙◌}
use mathlib.Core.List.{List}
use mathlib.Core.Bool.{true}
use Prim.Native.Nat.{ℕ, ◌*◌, ◌≤◌}
use Rattle.std.proofs.lemmas.Bool.Decides.{nat_tests}
use native.Mathlib.Omega.{arith}
use lib.ListN.{length}
use lib.Ieee.{Float}
use Rattle.spec_tables.proofs.Tables.{overwrite_none}
use Rattle.spec_records.specs.Records.{wrong, bodies, laid_out}
use Rattle.spec_records.specs.Layouts.{version_for, image_spans, image_size, image_wants}
use Rattle.spec_image.specs.Reading.{Rooms, refused, room_for, by_room, judged, image_read}
use Rattle.spec_image.proofs.Laid.{judged_by_room}
use Rattle.spec_image.proofs.Sizes.{image_is}
use Rattle.std.specs.Prelude.{Result, Err}
use Rattle.lists.specs.declared.refusal.Refusal.{Refusal}
use Rattle.lists.specs.Values.{number_of, place_of}
use Rattle.image.specs.declared.read.ImageRead.{ImageRead}
use Rattle.image.specs.Values.{rooms_in, ReadIs}

-- a refusal leaves the lists as they were
pub read_nothing : (s : List ℕ) (t : List Float) (o l : List ℕ) (b : List Float) (r : Result ImageRead Refusal) (e : Refusal) → r ≡ Err e
    → refused (number_of e) (place_of e) ≡ image_read s (rooms_in t o l b) → ReadIs s r t o l b t o l b
read_nothing s t o l b r e is refuses =
    rw is (record {
      answer = refuses;
      filled = record {
        triangles = sym (overwrite_none 0 t);
        order = sym (overwrite_none 0 o);
        links = sym (overwrite_none 0 l);
        boxes = sym (overwrite_none 0 b);
      };
    })

-- ---- what the layout's answer says
-- a wrong layout is refused with 10, at the offset of the wrong record
pub answer_wrong : (s : List ℕ) (at : ℕ) (rooms : Rooms) → wrong at ≡ laid_out image_wants s 0 → refused 10 at ≡ image_read s rooms
unfolding image_read
answer_wrong s at rooms off = rw (← off)

module _ (s : List ℕ) (t n : ℕ) (right : bodies (image_spans (version_for t) t n) ≡ laid_out image_wants s 0) where
  -- the counts that the layout answers fix the length of the image, so each record lies within the bytes
  pub image_long : image_size (version_for t) t n ≡ length s
  image_long = (image_is s t n (sym right)).long

  -- with the layout right the rooms decide
  pub answer_by_room : (rooms : Rooms) → image_read s rooms ≡ by_room s rooms t n
  unfolding image_read
  answer_by_room rooms = ap (judged s rooms) (sym right) ∙ judged_by_room s rooms t n

-- ---- what the test of the rooms says
pub record Enough (r : Rooms) (t n : ℕ) : Type 0 where
  pub triangles : 9 * t ≤ r.triangles
  pub order : t ≤ r.order
  pub links : 3 * n ≤ r.links
  pub boxes : 6 * n ≤ r.boxes

-- rooms that pass the test hold each list
pub enough : (r : Rooms) (t n : ℕ) → room_for r t n ≡ true → Enough r t n
enough r t n e =
    record { triangles = grind (arith, nat_tests); order = grind (arith, nat_tests); links = grind (arith, nat_tests); boxes = grind (arith, nat_tests) }
