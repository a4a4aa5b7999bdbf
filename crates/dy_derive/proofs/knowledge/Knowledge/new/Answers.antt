use Rattle.std.proofs.Common.{◌≡◌, ◌∙◌, ℕ, List, [], length, Some, None, refl, ap, sym, arith}
use Rattle.std.specs.List.{slice_get}
use Rattle.dy_derive.proofs.NothingDerived.{nothing_derived}
use Rattle.dy_derive.proofs.knowledge.Knowledge.new.Goals as goal

pub returns : goal.returns
returns c = record {
  facts = [];
  deduced = c.new.ensures;
  count = refl;
  within = λ place step before at. absurd (omega (arith, before));
  nonces = c.new-2.ensures.items;
  derived = λ index has. let none = c.new-2.ensures.items in let within = has.1 in absurd (omega (arith, ap length none));
  all = λ index derives. absurd (nothing_derived index derives);
  once = λ place other item at at_other.
      let none : None ≡ Some item = sym (ap (λ (list : List ℕ). slice_get list place) c.new-2.ensures.items) ∙ at in absurd cc;
}
