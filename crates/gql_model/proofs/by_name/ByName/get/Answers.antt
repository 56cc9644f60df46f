use Rattle.std.proofs.Common.{◌∙◌, sym, ap}
use Rattle.std.specs.List.{slice_get}
use Rattle.gql_model.proofs.Order.{find-position, find-none}
use Rattle.gql_model.proofs.by_name.ByName.get.Goals as goal

pub returns-in-Some : goal.returns-in-Some
returns-in-Some g c = c.get.ensures.value ∙ ap (λ items. slice_get items c.in-Some.place) c.self.view_is ∙ sym (find-position _ c.args.self.now c.in-Some.place (sym c.place.ensures.place ∙ c.in-Some.is))

pub returns-in-None : goal.returns-in-None
returns-in-None g c = sym (find-none _ c.args.self.now (sym c.place.ensures.place ∙ c.in-None.is))
