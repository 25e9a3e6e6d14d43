use Rattle.std.proofs.Common.{◌∷◌, [], refl, ap, ◌∙◌}
use Rattle.json5_report.specs.Courses.{crumb_of, shown_crumb, crumbs_onto}
use Rattle.json5_report.proofs.CoursesTaken.{onto_push}
use Rattle.json5_report.proofs.course.open_bracket.Goals as goal

pub returns : goal.returns
returns c = (
  refl,
  refl,
  ap (λ z. crumb_of z ∷ crumbs_onto [] c.push.new.self.items) c.replace-outer.ensures.after
      ∙ ap (λ z. shown_crumb c.args.crumb ∷ crumbs_onto [] z) c.in_ok-push.ensures.items
      ∙ ap (λ z. shown_crumb c.args.crumb ∷ z) (onto_push [] c.args.course.now.outer.items c.replace-outer.result)
      ∙ ap (λ z. shown_crumb c.args.crumb ∷ crumb_of z ∷ crumbs_onto [] c.args.course.now.outer.items) c.replace-outer.ensures.value,
)
