use Rattle.std.proofs.Common.{◌≤◌, length, refl, sym, arith}
use Rattle.std.proofs.lemmas.Simd.{zip2_splat, zip2_splat_left}
use Rattle.json5_tokens.proofs.ByteSearch.{hit, below, either}
use Rattle.json5_lexemes.specs.declared.runs.Run.TheVariants as runs
use Rattle.json5_lexemes.proofs.SharedRuns.{ends_masked, word_lane, text_lane, line_lane, block_lane}
use Rattle.json5_lexemes.proofs.runs.Run.ends.Goals as goal

pub returns-in-Word : goal.returns-in-Word
returns-in-Word c =
    let l = c.args.left in
    let long = c.fits-left.0 in
    let two = either _ _ l (zip2_splat below l 16 40 long) (zip2_splat_left below 122 16 l long) in
    let three = either _ _ l two (zip2_splat hit l 16 44 long) in
    let four = either _ _ l three (zip2_splat hit l 16 47 long) in
    let five = either _ _ l four (zip2_splat hit l 16 58 long) in
    let six = either _ _ l five (zip2_splat hit l 16 91 long) in
    let seven = either _ _ l six (zip2_splat hit l 16 93 long) in
    ends_masked c.args.self runs.Word _ l c.args.right c.in-Word.is (omega (arith, long)) seven word_lane

pub returns-in-Text : goal.returns-in-Text
returns-in-Text c =
    let l = c.args.left in
    let long = c.fits-left.0 in
    let two = either _ _ l (zip2_splat hit l 16 34 long) (zip2_splat hit l 16 39 long) in
    ends_masked c.args.self runs.Text _ l c.args.right c.in-Text.is (omega (arith, long)) (either _ _ l two (zip2_splat hit l 16 92 long)) text_lane

pub returns-in-Line : goal.returns-in-Line
returns-in-Line c =
    let l = c.args.left in
    let long = c.fits-left.0 in
    let two = either _ _ l (zip2_splat hit l 16 10 long) (zip2_splat hit l 16 13 long) in
    ends_masked c.args.self runs.Line _ l c.args.right c.in-Line.is (omega (arith, long)) (either _ _ l two (zip2_splat hit l 16 226 long)) line_lane

pub returns-in-Block : goal.returns-in-Block
returns-in-Block c =
    let l = c.args.left in
    let long = c.fits-left.0 in
    ends_masked c.args.self runs.Block _ l c.args.right c.in-Block.is (omega (arith, long)) (zip2_splat hit l 16 42 long) block_lane
