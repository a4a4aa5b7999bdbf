use Rattle.std.proofs.Common.{◌≡◌, ◌∙◌, [], ◌∷◌, ◌++◌, map, refl, sym, ap, subst}
use Rattle.std.proofs.lemmas.List.{map-append}
use Rattle.std.specs.Str.{bytes_eq}
use Rattle.dy_syntax.specs.Files as files
use Rattle.dy_syntax.specs.Meaning as meaning
use Rattle.dy_syntax.specs.Meaning.{decl_of}
use Rattle.dy_cases.specs.DeclaredParts.{usage_in, case_in, event_in, state_in, handler_in}
use Rattle.dy_cases.specs.MirrorTables.{word_of, usage_name, usage_at, pair_of, same_pair, case_name, case_at, event_name, event_at, state_name, state_at, HasUsages, HasCases, HasEvents, HasStates}
use Rattle.dy_cases.proofs.FirstFound.{picked_more, picked_same}
use Rattle.dy_cases.proofs.Added.{on_ok, other_kind, this_kind, this_case}
use Rattle.dy_cases.proofs.tables.add.Goals as goal

pub returns-in-Usage : goal.returns-in-Usage
returns-in-Usage c = on_ok c.add_first.result (λ new decls h.
    let decl : files.Decl = files.Usage (meaning.usage_of c.in-Usage.usage) in
    rw c.in-Usage.is (record {
      usages = subst (λ entries. HasUsages entries (decls ++ decl ∷ [])) (sym new)
          (this_kind usage_name usage_at usage_in c.args.tables.now.usages.entries decls decl _ _ refl c.as_bytes.ensures.bytes h.usages);
      cases = other_kind same_pair pair_of case_name case_at case_in c.args.tables.now.cases.entries decls decl refl h.cases;
      events = other_kind bytes_eq word_of event_name event_at event_in c.args.tables.now.events.entries decls decl refl h.events;
      states = other_kind bytes_eq word_of state_name state_at state_in c.args.tables.now.states.entries decls decl refl h.states;
      handlers = h.handlers ∙ sym (picked_same handler_in decls decl refl);
    })) c.add_first.ensures

pub returns-in-Case : goal.returns-in-Case
returns-in-Case c = on_ok c.add_first-in-Case.result (λ new decls h.
    let decl : files.Decl = files.Case (meaning.case_of c.in-Case.case) in
    let named : pair_of (c.as_bytes-in-Case.result, c.as_bytes-in-Case-2.result) ≡ case_name (meaning.case_of c.in-Case.case) =
    ap (λ usage. (usage, c.as_bytes-in-Case-2.result.now)) c.as_bytes-in-Case.ensures.bytes
    ∙ ap (λ tag. (c.in-Case.case.usage.word, tag)) c.as_bytes-in-Case-2.ensures.bytes in
    rw c.in-Case.is (record {
      usages = other_kind bytes_eq word_of usage_name usage_at usage_in c.args.tables.now.usages.entries decls decl refl h.usages;
      cases = subst (λ entries. HasCases entries (decls ++ decl ∷ [])) (sym new)
          (this_case c.args.tables.now.cases.entries decls decl _ _ refl named h.cases);
      events = other_kind bytes_eq word_of event_name event_at event_in c.args.tables.now.events.entries decls decl refl h.events;
      states = other_kind bytes_eq word_of state_name state_at state_in c.args.tables.now.states.entries decls decl refl h.states;
      handlers = h.handlers ∙ sym (picked_same handler_in decls decl refl);
    })) c.add_first-in-Case.ensures

pub returns-in-Event : goal.returns-in-Event
returns-in-Event c = on_ok c.add_first-in-Event.result (λ new decls h.
    let decl : files.Decl = files.Event (meaning.event_of c.in-Event.event) in
    rw c.in-Event.is (record {
      usages = other_kind bytes_eq word_of usage_name usage_at usage_in c.args.tables.now.usages.entries decls decl refl h.usages;
      cases = other_kind same_pair pair_of case_name case_at case_in c.args.tables.now.cases.entries decls decl refl h.cases;
      events = subst (λ entries. HasEvents entries (decls ++ decl ∷ [])) (sym new)
          (this_kind event_name event_at event_in c.args.tables.now.events.entries decls decl _ _ refl c.as_bytes-in-Event.ensures.bytes h.events);
      states = other_kind bytes_eq word_of state_name state_at state_in c.args.tables.now.states.entries decls decl refl h.states;
      handlers = h.handlers ∙ sym (picked_same handler_in decls decl refl);
    })) c.add_first-in-Event.ensures

pub returns-in-State : goal.returns-in-State
returns-in-State c = on_ok c.add_first-in-State.result (λ new decls h.
    let decl : files.Decl = files.State (meaning.state_of c.in-State.state) in
    rw c.in-State.is (record {
      usages = other_kind bytes_eq word_of usage_name usage_at usage_in c.args.tables.now.usages.entries decls decl refl h.usages;
      cases = other_kind same_pair pair_of case_name case_at case_in c.args.tables.now.cases.entries decls decl refl h.cases;
      events = other_kind bytes_eq word_of event_name event_at event_in c.args.tables.now.events.entries decls decl refl h.events;
      states = subst (λ entries. HasStates entries (decls ++ decl ∷ [])) (sym new)
          (this_kind state_name state_at state_in c.args.tables.now.states.entries decls decl _ _ refl c.as_bytes-in-State.ensures.bytes h.states);
      handlers = h.handlers ∙ sym (picked_same handler_in decls decl refl);
    })) c.add_first-in-State.ensures

pub returns-in_ok-push-in-Handler : goal.returns-in_ok-push-in-Handler
returns-in_ok-push-in-Handler c decls h =
    let decl : files.Decl = files.Handler (meaning.handler_of c.in-Handler.handler) in
    rw c.in-Handler.is (record {
      usages = other_kind bytes_eq word_of usage_name usage_at usage_in c.args.tables.now.usages.entries decls decl refl h.usages;
      cases = other_kind same_pair pair_of case_name case_at case_in c.args.tables.now.cases.entries decls decl refl h.cases;
      events = other_kind bytes_eq word_of event_name event_at event_in c.args.tables.now.events.entries decls decl refl h.events;
      states = other_kind bytes_eq word_of state_name state_at state_in c.args.tables.now.states.entries decls decl refl h.states;
      handlers = ap (map (λ handler. meaning.handler_of handler.now)) c.in_ok-push-in-Handler.ensures.ok
          ∙ map-append (λ handler. meaning.handler_of handler.now) c.args.tables.now.handlers _
          ∙ ap (λ handlers. handlers ++ meaning.handler_of c.in-Handler.handler ∷ []) h.handlers
          ∙ sym (picked_more handler_in decls decl (meaning.handler_of c.in-Handler.handler) refl);
    })
