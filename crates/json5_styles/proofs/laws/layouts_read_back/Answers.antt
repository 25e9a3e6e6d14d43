use Rattle.json5_styles.proofs.Documents.{document}
use Rattle.json5_styles.proofs.Spelled.{json5_style, json_style}
use Rattle.json5_styles.proofs.TextsBack.{within}
use Rattle.json5_styles.proofs.laws.layouts_read_back.Goals as goal

pub returns-clause-json5 : goal.returns-clause-json5
returns-clause-json5 c = λ l x h k. document _ (json5_style l) _ x h (within _ _ k)

pub returns-clause-json : goal.returns-clause-json
returns-clause-json c = λ l x h k. document _ (json_style l) _ x h (within _ _ k)
