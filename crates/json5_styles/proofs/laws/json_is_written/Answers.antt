use Rattle.json5_styles.proofs.JsonWritten.{text_is}
use Rattle.json5_styles.proofs.laws.json_is_written.Goals as goal

pub returns : goal.returns
returns c = λ l x h k. text_is l x h k
