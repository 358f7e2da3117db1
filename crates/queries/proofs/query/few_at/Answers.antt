-- `queries::query::few_at` meets its contract: the places hold what the walk keeps, which is what the scan keeps.
use mathlib.Core.Path.{ap, ◌∙◌}
use mathlib.Core.List.{List}
use lib.Ieee.{binary32}
use Rattle.shapes.specs.Values.{as_point}
use Rattle.spec_search.specs.Answers.{Hit}
use Rattle.spec_search.specs.Rules.{rule_of, limit_squared, limit_of}
use Rattle.spec_search.specs.Few.{answer_in, few_walk}
use Rattle.spec_search.specs.Marked.{marker}
use Rattle.spec_search.specs.Calls.{few_answer}
use Rattle.spec_search.proofs.Rules.{limit_bounded}
use Rattle.spec_search.proofs.Few.{walk_is_scan}
use Rattle.spec_search.proofs.Calls.{entries_below, numbers_low}
use Rattle.spec_search.proofs.Marked.{marked_answers}
use Rattle.walks.proofs.Reached.{reached_answers}
use Rattle.queries.proofs.query.few_at.Goals as goal

pub search-requires-clause-limit_finite : goal.search-requires-clause-limit_finite
unfolding limit_squared
search-requires-clause-limit_finite c = limit_bounded binary32 c.args.distance c.requires.good_distance

pub returns : goal.returns
unfolding few_answer limit_squared
returns c =
    let a = c.args in
    let d = a.drawing.now in
    let pre = c.requires in
    let p = as_point a.p in
    let limit = limit_of binary32 (rule_of a.rule) a.distance in
    let walk = few_walk binary32 d.triangles.now d.order.now d.links.now d.boxes.now d.nodes p a.most limit in
    let held = reached_answers limit.squared walk (marker limit.squared) c.search.ensures
    (λ j l. marked_answers binary32 d.triangles.now d.order.now d.links.now d.boxes.now _ d.nodes (entries_below _ _ _ _ _ pre.searchable)
    (numbers_low _ _ _ _ _ pre.searchable) p a.most pre.le_most.0 (rule_of a.rule) limit.squared
    (limit_bounded binary32 a.distance pre.good_distance) j (marker limit.squared) l) in
    let scanned = walk_is_scan binary32 d.triangles.now p a.most limit pre.searchable.triangles_good pre.finite d.order.now d.links.now
    d.boxes.now d.nodes pre.searchable.tree_accepted in
    record {
      lent = held.lent;
      most_is = held.most_is;
      answers_are = λ j l. held.answers_are j l ∙ ap (λ (ks : List Hit). answer_in ks j) scanned;
    }
