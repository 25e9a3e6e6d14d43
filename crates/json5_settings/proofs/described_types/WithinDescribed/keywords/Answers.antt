use Rattle.std.proofs.Common.{FitsSigned, to_z, w64, rules}
use Rattle.json5_settings.proofs.WithinSaid.{within_says}
use Rattle.json5_settings.proofs.described_types.WithinDescribed.keywords.Goals as goal

pub returns-clause-says : goal.returns-clause-says
returns-clause-says g c =
    let low : FitsSigned w64 (to_z w64 g.row.LOW) = search rules in
    let high : FitsSigned w64 (to_z w64 g.row.HIGH) = search rules in
    within_says (to_z w64 g.row.LOW) (to_z w64 g.row.HIGH) low high
