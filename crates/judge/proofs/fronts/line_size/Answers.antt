-- The search of `line_size` finds the first line feed, where there is one.
use Rattle.std.proofs.Common.{◌+◌, ap, sym, ◌∙◌, rules, tests}
use Rattle.std.specs.Prelude.{◌==◌, option_map}
use Rattle.std.proofs.lemmas.Iterator.{YieldsList-from_slice}
use Rattle.std.proofs.lemmas.Iterator.Search.{position_from_yields_List}
use Rattle.judge.specs.NextLine.{line_size}
use Rattle.judge.proofs.fronts.line_size.Goals as goal

pub returns-in_err-feed-clause-size : goal.returns-in_err-feed-clause-size
unfolding line_size
returns-in_err-feed-clause-size c =
    let found = position_from_yields_List (λ byte. byte == 10) _ _ _ c.position.ensures.ran (YieldsList-from_slice c.args.lines.now cc)
    (λ x b q k. search (rules, tests)) in
    c.from_residual.ensures ∙ ap (option_map (λ at. at + 1)) (sym c.in_err-feed.was ∙ found)

pub returns-clause-size : goal.returns-clause-size
unfolding line_size
returns-clause-size c =
    let found = position_from_yields_List (λ byte. byte == 10) _ _ _ c.position.ensures.ran (YieldsList-from_slice c.args.lines.now cc)
    (λ x b q k. search (rules, tests)) in
    ap (option_map (λ at. at + 1)) (sym c.in_ok-feed.was ∙ found)
