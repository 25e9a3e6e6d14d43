use Rattle.std.proofs.Common.{◌≡◌, ◌≤◌, ◌++◌, [], length, ap, sym, ◌∙◌, rules, drop_of_length-le}
use Rattle.std.specs.Prelude.{string_bytes}
use Rattle.json5_report.specs.Courses.{crumb_of, crumbs_onto}
use Rattle.json5_report.specs.Paths.{crumb_text, path_text}
use Rattle.json5_report.proofs.PathsShown.{path_onto, path_shown}
use Rattle.json5_report.proofs.path.path_of.Goals as goal

pub returns : goal.returns
returns c =
    let l = c.loop-part in
    let items = c.args.course.now.outer.items in
    let none : length items ≤ l.part-index = search rules in
    let done : string_bytes l.path ≡ path_text (crumbs_onto [] items) = sym (ap (path_onto (string_bytes l.path)) (drop_of_length-le items none)) ∙ l.invariant ∙ path_shown [] items in
    c.in_ok-push_step-2.ensures ∙ ap (λ z. z ++ crumb_text z (crumb_of c.args.course.now.inner)) done
