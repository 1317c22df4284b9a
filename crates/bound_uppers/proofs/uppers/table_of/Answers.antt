use Rattle.std.proofs.Common.{◌≡◌, ◌∙◌, ℕ, List, length, subst}
use Rattle.core_tree.specs.declared.model.Field.{Field}
use Rattle.core_tree.specs.declared.model.Model.{Model}
use Rattle.bound_uppers.specs.Order.{standings, AreOrders}
use Rattle.bound_uppers.proofs.Tables.{table_is, orders_are}
use Rattle.bound_uppers.proofs.uppers.table_of.Goals as goal

-- the orders of a model's relations, by what was read of the model
orders_of : (model : Model) (count : ℕ) (fields : List Field) (places : List ℕ) → count ≡ length model.sigs → fields ≡ model.fields → AreOrders (standings count fields) places → AreOrders (standings (length model.sigs) model.fields) places
orders_of model count fields places e f are = subst (λ (n : ℕ). AreOrders (standings n model.fields) places) e (subst (λ (fs : List Field). AreOrders (standings count fs) places) f are)

pub returns-clause-table : goal.returns-clause-table
returns-clause-table c =
    let model = c.args.model.now in
    let are = orders_of model c.len-count.result c.as_slice-fields.result.now c.in_ok-places.places.items c.len-count.ensures c.as_slice-fields.ensures c.in_ok-places.ensures in
    table_is c.in_ok-relations.relations (standings (length model.sigs) model.fields) c.in_ok-places.places.items (c.in_ok-relations.ensures.orders ∙ c.deref.ensures.value) are c.args.states c.requires.some

pub returns-clause-order : goal.returns-clause-order
returns-clause-order c =
    let model = c.args.model.now in
    let are = orders_of model c.len-count.result c.as_slice-fields.result.now c.in_ok-places.places.items c.len-count.ensures c.as_slice-fields.ensures c.in_ok-places.ensures in
    orders_are c.in_ok-relations.relations (standings (length model.sigs) model.fields) c.in_ok-places.places.items (c.in_ok-relations.ensures.orders ∙ c.deref.ensures.value) are
