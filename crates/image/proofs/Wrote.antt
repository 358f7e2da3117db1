-- What writing an image answers and leaves, put together from its steps.
use mathlib.Core.Path.{◌≡◌, sym}
use Prim.Native.Nat.{ℕ, ◌≤◌}
use mathlib.Core.List.{List}
use lib.ListN.{length}
use Rattle.spec_tables.specs.Tables.{Put}
use Rattle.spec_records.specs.Layouts.{image_size}
use Rattle.spec_lists.specs.Refusals.{passes, refused}
use Rattle.spec_image.specs.Image.{Image, image_bytes}
use Rattle.spec_image.specs.Stored.{Complete}
use Rattle.spec_image.specs.Writing.{version_of, write_refusal, image_written, bytes_after}
use Rattle.spec_image.proofs.Writing.{Good, write_passed, good_count, good_complete}
use Rattle.std.specs.Prelude.{Result, Ok, Err}
use Rattle.lists.specs.declared.refusal.Refusal.{Refusal}
use Rattle.lists.specs.Values.{number_of, place_of}
use Rattle.image.specs.Values.{WrittenIs}

module _ (x : Image) (out : List ℕ) where
  -- a refusal leaves the bytes as they were
  pub wrote_nothing : (r : Result ℕ Refusal) (e : Refusal) → r ≡ Err e → refused (number_of e) (place_of e) ≡ write_refusal x (length out)
      → WrittenIs x r out out
  unfolding image_written bytes_after
  wrote_nothing r e is tests = record { answer = rw (is, ← tests); filled = rw (← tests) }

  module _ (passed : passes ≡ write_refusal x (length out)) where
    good : Good x
    good = (write_passed x (length out) (sym passed)).0

    -- where the tests pass, the image is complete and the bytes have room for it
    pub can_put : Complete x × image_size (version_of x) (length x.order) x.nodes ≤ length out
    can_put = (good_complete x good, rw (good_count x good) (write_passed x (length out) (sym passed)).1)

    -- where the tests pass, the image stands at the front of the bytes
    pub wrote_image : {n : ℕ} {out' : List ℕ} → Put 0 (image_bytes (version_of x) x) out out' n → n ≡ image_size (version_of x) (length x.order) x.nodes
        → WrittenIs x (Ok n) out out'
    unfolding image_written bytes_after
    wrote_image p size = record { answer = rw (← passed, size, good_count x good); filled = rw (← passed) p.written }
