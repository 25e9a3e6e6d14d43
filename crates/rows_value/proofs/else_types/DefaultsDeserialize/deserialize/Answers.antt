use Rattle.rows_value.proofs.else_types.DefaultsDeserialize.deserialize.Goals as goal

pub returns-in-Err-clause-complete : goal.returns-in-Err-clause-complete
returns-in-Err-clause-complete g c = rw c.new.ensures.items at c.in-Err.ensures.complete

pub returns-in-Err-clause-refused : goal.returns-in-Err-clause-refused
returns-in-Err-clause-refused g c = rw c.new.ensures.items at c.in-Err.ensures.refused
