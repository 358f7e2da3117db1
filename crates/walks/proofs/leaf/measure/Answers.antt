-- `walks::leaf::measure` meets its contract: the triangle that was read, and its held point offered or its computed one kept if smaller.
use mathlib.Core.Path.{◌≡◌, ap, ◌∙◌}
use lib.Ieee.{binary32}
use Rattle.shapes.specs.Values.{as_spot, as_point}
use Rattle.spec_shapes.specs.Triangles.{Triangle, Spot, closest_spot, held_from, held_spot}
use Rattle.spec_lists.specs.Reading.{triangle_at}
use Rattle.spec_search.specs.Answers.{Hit, hit_at}
use Rattle.spec_search.specs.Sure.{hit}
use Rattle.spec_search.specs.Few.{offered_few, took_few}
use Rattle.spec_search.specs.Source.{source_hit, keep_smaller, took_source}
use Rattle.spec_search.specs.Marked.{below}
use Rattle.walks.specs.declared.answer.Measures.TheVariants.{Computed}
use Rattle.walks.specs.Places.{most_of, places_of, kept_in}
use Rattle.walks.specs.Values.{as_hit}
use Rattle.walks.proofs.leaf.measure.Goals as goal

pub returns-in-Held : goal.returns-in-Held
unfolding took_few hit held_spot
returns-in-Held c =
    let a = c.args in
    let p = as_point a.probe.now.point in
    let t = triangle_at a.triangles.now a.t in
    let read = c.triangle_at-triangle.ensures in
    let spot : as_spot c.closest_spot-computed.result ≡ closest_spot binary32 t p = rw (c.closest_spot-computed.ensures, read) in
    let held : as_spot c.held.result ≡ held_spot binary32 t p =
    c.held.ensures ∙ ap (λ (x : Triangle). held_from binary32 x p (as_spot c.closest_spot-computed.result)) read ∙ ap (held_from binary32 t p) spot in
    let is : as_hit c.hit_at.result ≡ hit binary32 a.triangles.now p a.t =
    c.hit_at.ensures ∙ ap (λ (s : Spot). hit_at binary32 s p a.t) held in
    let holds = c.offer.ensures in
    let places = a.places.now in
    rw c.in-Held.is (record {
      lent = holds.lent;
      most_is = holds.most_is;
      kept_is =
          holds.kept_is
          ∙ ap (λ (h : Hit). offered_few (most_of places.which) (below a.probe.now.limit) h (places_of places.best places.which)) is;
    })

pub returns-in-Computed : goal.returns-in-Computed
unfolding took_source source_hit
returns-in-Computed c =
    let a = c.args in
    let p = as_point a.probe.now.point in
    let spot : as_spot c.closest_spot-computed.result ≡ closest_spot binary32 (triangle_at a.triangles.now a.t) p =
    rw (c.closest_spot-computed.ensures, c.triangle_at-triangle.ensures) in
    let is : as_hit c.hit_at-in-Computed.result ≡ source_hit binary32 a.triangles.now p a.t =
    c.hit_at-in-Computed.ensures ∙ ap (λ (s : Spot). hit_at binary32 s p a.t) spot in
    let holds = c.keep_smaller.ensures in
    rw c.in-Computed.is (record {
      lent = holds.lent;
      most_is = holds.most_is;
      kept_is = holds.kept_is ∙ ap (λ (h : Hit). keep_smaller h (kept_in Computed a.places.now.best a.places.now.which)) is;
    })
