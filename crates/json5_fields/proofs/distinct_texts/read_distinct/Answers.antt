use Rattle.std.proofs.Common.{rules, arith}
use Rattle.std.proofs.lemmas.List.{length-map}
use Rattle.json5_de.proofs.Refinement.{accepted_completes, reads_content, refused_completes}
use Rattle.json5_fields.specs.Distinct.{all_texts, distinct_texts, text_at, texts, texts_of, if_distinct, at_element, not_read}
use Rattle.json5_fields.proofs.TextsThatDiffer.{unfit_none, few_none, all_taken, few_refused, made_sound, made_complete, made_refused, made_unprompted}
use Rattle.json5_fields.proofs.distinct_texts.read_distinct.Goals as goal

pub returns-in-Err : goal.returns-in-Err
returns-in-Err g c = record {
  sound = tt;
  complete = accepted_completes (if_distinct c.args.rule.least c.args.rule.most c.args.rule.longest) c.in-Err.ensures.reads.complete;
  no_memory = λ t r v live reads shallow converts free. absurd (cc);
  refused = not_read c.in-Err.ensures.reads.refused;
  unprompted = search rules;
  same_text = search rules;
}

pub returns-in-Some : goal.returns-in-Some
returns-in-Some g c =
    let none = unfit_none c.args.rule.least c.args.rule.most c.args.rule.longest c.in-Ok.list.value.items _ (rw c.as_slice-items.ensures.value at c.in-Some.ensures) in
    record {
      sound = tt;
      complete = refused_completes texts_of (if_distinct c.args.rule.least c.args.rule.most c.args.rule.longest) c.in-Ok.ensures.reads.complete none;
      no_memory = λ t r v live reads shallow converts free. absurd (cc);
      refused = at_element c.in-Ok.list.value.items _ c.in-Ok.ensures.reads.sound (rw c.as_slice-items.ensures.value at c.in-Some.ensures) c.fault_at.ensures.own;
      unprompted = search rules;
      same_text = search rules;
    }

pub returns-then-count-least : goal.returns-then-count-least
returns-then-count-least g c =
    let items = c.as_slice-items.ensures.value in
    let short = rw items at c.if-count-least.true in
    let none = few_none c.args.rule.least c.args.rule.most c.args.rule.longest (texts c.in-Ok.list.value.items) (rw items at c.in_default.ensures) (rw (length-map c.in-Ok.list.value.items text_at) short) in
    record {
      sound = tt;
      complete = refused_completes texts_of (if_distinct c.args.rule.least c.args.rule.most c.args.rule.longest) c.in-Ok.ensures.reads.complete none;
      no_memory = λ t r v live reads shallow converts free. absurd (cc);
      refused = few_refused c.args.rule.least c.args.rule.most c.args.rule.longest c.args.de.now _ (texts c.in-Ok.list.value.items) c.in-Ok.list.start c.in-Ok.list.end _ c.in-Ok.ensures.reads.sound c.in-Ok.ensures.spans (rw items at c.in_default.ensures) (rw (length-map c.in-Ok.list.value.items text_at) short) c.fault_at-then-count-least.ensures.own;
      unprompted = search rules;
      same_text = search rules;
    }

pub returns : goal.returns
returns g c =
    let items = c.as_slice-items.ensures.value in
    let count = length-map c.in-Ok.list.value.items text_at in
    let enough = rw items at c.if-count-least.false in
    let sound = made_sound c.args.rule.least c.args.rule.most c.args.rule.longest c.args.de.now _ c.in-Ok.list.value.items c.values_of.result c.values_of.ensures c.in-Ok.ensures.reads.sound (all_taken c.args.rule.least c.args.rule.most c.args.rule.longest (texts c.in-Ok.list.value.items) (rw items at c.in_default.ensures) (omega (arith, count, enough))) in
    let complete = made_complete c.args.rule.least c.args.rule.most c.args.rule.longest c.args.de.now c.args.de.now c.in-Ok.list.value.items c.values_of.result c.values_of.ensures in
    record {
      sound = sound;
      complete = reads_content all_texts (distinct_texts c.args.rule.least c.args.rule.most c.args.rule.longest) c.args.de.now _ c.values_of.result sound complete;
      no_memory = λ t r v live reads shallow converts free. absurd (cc);
      refused = made_refused c.args.rule.least c.args.rule.most c.args.rule.longest c.args.de.now _ c.in-Ok.list.value.items c.values_of.result c.values_of.ensures;
      unprompted = made_unprompted c.args.rule.least c.args.rule.most c.args.rule.longest c.args.de.now c.args.de.now c.in-Ok.list.value.items c.values_of.result c.values_of.ensures;
      same_text = search rules;
    }
