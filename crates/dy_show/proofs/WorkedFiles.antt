-- The canonical text of whole files, by computation.
use Rattle.std.specs.Prelude.{◌≡◌, ℕ, Bool, true, false, List, [], ◌∷◌, ◌++◌, codes, Some, None}
use Rattle.std.specs.List.{flat_map}
use Rattle.std.specs.Fmt.{digits}
use Rattle.std.proofs.Common.{refl}
use Rattle.dy_lex.specs.declared.letters.TheConstants.{NEWLINE}
use Rattle.dy_syntax.specs.Names as n
use Rattle.dy_syntax.specs.Labels as l
use Rattle.dy_syntax.specs.Expressions as e
use Rattle.dy_syntax.specs.Declarations as d
use Rattle.dy_syntax.specs.Statements as s
use Rattle.dy_syntax.specs.Recipes as r
use Rattle.dy_syntax.specs.Plans as p
use Rattle.dy_syntax.specs.Files as f
use Rattle.dy_show.specs.Spacing.{gap, ending_of}
use Rattle.dy_show.specs.Canonical.{canon, more_to, comma_list, list_end, use_text, atom, label, expr, field_type, field, row, param, partner, table, usage_decl, case_decl, event_decl, state_decl, pattern_, act, seal, opened_as, on_args, recv_open, handler, decl, recipe, msg_end, start_end, action, step, round, rounds, file}

abbrev i : List ℕ → ℕ → n.Id
i word line = record { word = word; line = line }

abbrev q : List ℕ → ℕ → n.Quote
q text line = record { text = text; line = line }

abbrev u : n.Id → List n.Nm → n.UseText
u usage args = record { usage = usage; args = args }

abbrev at : n.Id → List n.Nm → n.AtomText
at event args = record { event = event; args = args }

abbrev fl : n.Id → d.FieldType → ℕ → d.Field
fl name kind line = record { name = name; kind = kind; kind_line = line }

abbrev rw : n.Quote → n.KindText → ℕ → n.Id → d.Row
rw text kind line usage = record { text = text; kind = kind; kind_line = line; usage = usage }

abbrev pm : ℕ → Bool → n.Id → d.Param
pm line is_name name = record { line = line; is_name = is_name; name = name }

abbrev pt : n.AtomText → l.LabelText → d.Partner
pt atom unless = record { atom = atom; unless = unless }

abbrev op : ℕ → n.Id → List s.Pattern → s.OnPart
op line state pats = record { line = line; state = state; pats = pats }

abbrev st : ℕ → s.Act → s.Statement
st line act = record { line = line; act = act }

abbrev nb : ℕ → n.Id → ℕ → r.Numbered
nb line step number = record { line = line; step = step; number = number }

abbrev os : ℕ → n.Id → p.OnStep
os line step = record { line = line; step = step }

abbrev sp : ℕ → n.Id → p.Action → p.Step
sp line name action = record { line = line; name = name; action = action }

abbrev rd : ℕ → List p.Step → p.Round
rd line steps = record { line = line; steps = steps }

abbrev lines : List (List ℕ) → List ℕ
lines texts = flat_map (λ text. text ++ NEWLINE ∷ []) texts

abbrev file_a : f.File
file_a = record {
  version = 1;
  decls =
      f.Usage (record {
        line = 2;
        kind = n.Pke;
        kind_line = 2;
        name = (i (codes "Dec") 2);
        params = ((i (codes
            "owner") 2) ∷ []);
        rows = ([]);
      }) ∷
      f.Usage (record {
        line = 3;
        kind = n.Nonce;
        kind_line = 3;
        name = (i (codes "Rand") 3);
        params = ([]);
        rows
            = ([]);
      }) ∷
      f.Event (record {
        line = 4;
        name = (i (codes "Respond") 4);
        params = ((pm 4 true (i (codes "b") 4)) ∷ (pm 4
            true (i (codes "a") 4)) ∷ (pm 4 false (i (codes "nb") 4)) ∷ []);
        after = [];
      }) ∷
      f.Event (record {
        line = 5;
        name = (i (codes "Finish") 5);
        params = ((pm 5 true (i (codes "a") 5)) ∷ (pm 5
            true (i (codes "b") 5)) ∷ (pm 5 false (i (codes "nb") 5)) ∷ []);
        after = ((pt (at (i (codes "Respond")
            5) ((n.Named (i (codes "b") 5)) ∷ (n.Named (i (codes "a") 5)) ∷ (n.Named (i (codes "nb") 5)) ∷ []))
            (l.Join 5 (l.One (n.Named (i (codes "a") 5))) (l.One (n.Named (i (codes "b") 5))))) ∷ []);
      }) ∷
      f.Event (record {
        line = 6;
        name = (i (codes "Accept") 6);
        params = ((pm 6 true (i (codes "b") 6)) ∷ (pm 6
            true (i (codes "a") 6)) ∷ (pm 6 false (i (codes "nb") 6)) ∷ []);
        after = ((pt (at (i (codes "Finish") 6)
            ((n.Named (i (codes "a") 6)) ∷ (n.Named (i (codes "b") 6)) ∷ (n.Named (i (codes "nb") 6)) ∷ [])) (l.Join
            6 (l.One (n.Named (i (codes "a") 6))) (l.One (n.Named (i (codes "b") 6))))) ∷ []);
      }) ∷
      f.Case (record {
        line = 7;
        usage = (i (codes "Dec") 7);
        tag = (q (codes "m1") 7);
        fields = ((fl (i (codes
            "na") 7) (d.Secret (l.Join 7 (l.One (n.Named (i (codes "a") 7))) (l.One (n.Named (i (codes "owner")
            7))))) 7) ∷ (fl (i (codes "a") 7) d.Name 7) ∷ []);
        requires_ = [];
      }) ∷
      f.Case (record {
        line = 8;
        usage = (i (codes "Dec") 8);
        tag = (q (codes "m2") 8);
        fields = ((fl (i (codes
            "na") 8) (d.Upto (l.Join 8 (l.One (n.Named (i (codes "owner") 8))) (l.One (n.Named (i (codes "b") 8)))))
            8) ∷ (fl (i (codes "nb") 8) (d.Secret (l.Join 8 (l.One (n.Named (i (codes "owner") 8))) (l.One (n.Named
            (i (codes "b") 8))))) 8) ∷ (fl (i (codes "b") 8) d.Name 8) ∷ []);
        requires_ = ((at (i (codes "Respond")
            8) ((n.Named (i (codes "b") 8)) ∷ (n.Named (i (codes "owner") 8)) ∷ (n.Named (i (codes "nb") 8)) ∷ []))
            ∷ []);
      }) ∷
      f.Case (record {
        line = 9;
        usage = (i (codes "Dec") 9);
        tag = (q (codes "m3") 9);
        fields = ((fl (i (codes
            "nb") 9) (d.Upto (l.Join 9 (l.One (n.Named (i (codes "a") 9))) (l.One (n.Named (i (codes "owner") 9)))))
            9) ∷ (fl (i (codes "a") 9) d.Name 9) ∷ []);
        requires_ = ((at (i (codes "Finish") 9) ((n.Named (i (codes
            "a") 9)) ∷ (n.Named (i (codes "owner") 9)) ∷ (n.Named (i (codes "nb") 9)) ∷ [])) ∷ []);
      }) ∷
      f.State (record {
        line = 10;
        name = (i (codes "Key") 10);
        lasting = true;
        fields = ((fl (i (codes "sk") 10)
            (d.Key (l.One (n.Me 10)) (u (i (codes "Dec") 10) ((n.Me 10) ∷ []))) 10) ∷ []);
        knows = [];
      }) ∷
      f.State (record {
        line = 11;
        name = (i (codes "Init") 11);
        lasting = false;
        fields = ((fl (i (codes "na")
            11) (d.Secret (l.Join 11 (l.One (n.Me 11)) (l.One (n.Named (i (codes "b") 11))))) 11) ∷ (fl (i (codes
            "b") 11) d.Name 11) ∷ []);
        knows = [];
      }) ∷
      f.State (record {
        line = 12;
        name = (i (codes "Resp") 12);
        lasting = false;
        fields = ((fl (i (codes "nb")
            12) (d.Secret (l.Join 12 (l.One (n.Me 12)) (l.One (n.Named (i (codes "a") 12))))) 12) ∷ (fl (i (codes
            "a") 12) d.Name 12) ∷ []);
        knows = [];
      }) ∷
      f.Handler (record {
        line = 13;
        name = (i (codes "Keygen") 13);
        on = None;
        args = ([]);
        recv = None;
        body = (
            (st 14 (s.New (i (codes "sk") 14) (u (i (codes "Dec") 14) ((n.Me 14) ∷ [])) (l.One (n.Me 14)))) ∷
            (st 15 (s.Certify (i (codes "sk") 15) (i (codes "Dec") 15))) ∷
            (st 16 (s.Store (i (codes "Key") 16) ((e.Nm (n.Named (i (codes "sk") 16))) ∷ []))) ∷ []);
      }) ∷
      f.Handler (record {
        line = 18;
        name = (i (codes "Init1") 18);
        on = None;
        args = ((i (codes "b") 18) ∷ []);
        recv = None;
        body = (
            (st 19 (s.Find (i (codes "Dec") 19) (n.Named (i (codes "b") 19)) (i (codes "pkb") 19))) ∷
            (st 20 (s.New (i (codes "na") 20) (u (i (codes "Rand") 20) ([])) (l.Join 20 (l.One (n.Me 20)) (l.One
            (n.Named (i (codes "b") 20)))))) ∷
            (st 21 (s.Send (e.Penc 21 (n.Named (i (codes "pkb") 21)) (u (i (codes "Dec") 21) ((n.Named (i (codes
            "b") 21)) ∷ [])) (q (codes "m1") 21) (e.Cons (e.Nm (n.Named (i (codes "na") 21))) (e.Cons (e.Nm
            (n.Me 21)) e.Nil))))) ∷
            (st 22 (s.Store (i (codes "Init") 22) ((e.Nm (n.Named (i (codes "na") 22))) ∷ (e.Nm (n.Named (i (codes
            "b") 22))) ∷ []))) ∷ []);
      }) ∷
      f.Handler (record {
        line = 24;
        name = (i (codes "Resp1") 24);
        on = None;
        args = ([]);
        recv = (Some (i (codes
            "m") 24));
        body = (
            (st 25 (s.Recall (i (codes "Key") 25) ((s.Bind (i (codes "sk") 25)) ∷ []))) ∷
            (st 26 (s.Popened (i (codes "m") 26) (i (codes "sk") 26) (u (i (codes "Dec") 26) ((n.Me 26) ∷ [])) (q
            (codes "m1") 26) ((s.Bind (i (codes "na") 26)) ∷ (s.Named 26 (i (codes "a") 26)) ∷ []))) ∷
            (st 27 (s.Find (i (codes "Dec") 27) (n.Named (i (codes "a") 27)) (i (codes "pka") 27))) ∷
            (st 28 (s.New (i (codes "nb") 28) (u (i (codes "Rand") 28) ([])) (l.Join 28 (l.One (n.Me 28)) (l.One
            (n.Named (i (codes "a") 28)))))) ∷
            (st 29 (s.Event (at (i (codes "Respond") 29) ((n.Me 29) ∷ (n.Named (i (codes "a") 29)) ∷ (n.Named (i
            (codes "nb") 29)) ∷ [])))) ∷
            (st 30 (s.Send (e.Penc 30 (n.Named (i (codes "pka") 30)) (u (i (codes "Dec") 30) ((n.Named (i (codes
            "a") 30)) ∷ [])) (q (codes "m2") 30) (e.Cons (e.Nm (n.Named (i (codes "na") 30))) (e.Cons (e.Nm
            (n.Named (i (codes "nb") 30))) (e.Cons (e.Nm (n.Me 30)) e.Nil)))))) ∷
            (st 31 (s.Store (i (codes "Resp") 31) ((e.Nm (n.Named (i (codes "nb") 31))) ∷ (e.Nm (n.Named (i (codes
            "a") 31))) ∷ []))) ∷ []);
      }) ∷
      f.Handler (record {
        line = 33;
        name = (i (codes "Init2") 33);
        on = (Some (op 33 (i (codes "Init") 33)
            ((s.Bind (i (codes "na") 33)) ∷ (s.Named 33 (i (codes "b") 33)) ∷ [])));
        args = ([]);
        recv = (Some (i
            (codes "m") 33));
        body = (
            (st 34 (s.Recall (i (codes "Key") 34) ((s.Bind (i (codes "sk") 34)) ∷ []))) ∷
            (st 35 (s.Popened (i (codes "m") 35) (i (codes "sk") 35) (u (i (codes "Dec") 35) ((n.Me 35) ∷ [])) (q
            (codes "m2") 35) ((s.Equal 35 (n.Named (i (codes "na") 35))) ∷ (s.Bind (i (codes "nb") 35)) ∷
            (s.Equal 35 (n.Named (i (codes "b") 35))) ∷ []))) ∷
            (st 36 (s.Event (at (i (codes "Finish") 36) ((n.Me 36) ∷ (n.Named (i (codes "b") 36)) ∷ (n.Named (i
            (codes "nb") 36)) ∷ [])))) ∷
            (st 37 (s.Find (i (codes "Dec") 37) (n.Named (i (codes "b") 37)) (i (codes "pkb") 37))) ∷
            (st 38 (s.Send (e.Penc 38 (n.Named (i (codes "pkb") 38)) (u (i (codes "Dec") 38) ((n.Named (i (codes
            "b") 38)) ∷ [])) (q (codes "m3") 38) (e.Cons (e.Nm (n.Named (i (codes "nb") 38))) (e.Cons (e.Nm
            (n.Me 38)) e.Nil))))) ∷ []);
      }) ∷
      f.Handler (record {
        line = 40;
        name = (i (codes "Resp2") 40);
        on = (Some (op 40 (i (codes "Resp") 40)
            ((s.Bind (i (codes "nb") 40)) ∷ (s.Named 40 (i (codes "a") 40)) ∷ [])));
        args = ([]);
        recv = (Some (i
            (codes "m") 40));
        body = (
            (st 41 (s.Recall (i (codes "Key") 41) ((s.Bind (i (codes "sk") 41)) ∷ []))) ∷
            (st 42 (s.Popened (i (codes "m") 42) (i (codes "sk") 42) (u (i (codes "Dec") 42) ((n.Me 42) ∷ [])) (q
            (codes "m3") 42) ((s.Equal 42 (n.Named (i (codes "nb") 42))) ∷ (s.Equal 42 (n.Named (i (codes "a")
            42))) ∷ []))) ∷
            (st 43 (s.Event (at (i (codes "Accept") 43) ((n.Me 43) ∷ (n.Named (i (codes "a") 43)) ∷ (n.Named (i
            (codes "nb") 43)) ∷ [])))) ∷ []);
      }) ∷ [];
  plan = record {
    rounds =
        (rd 46 ((sp 46 (i (codes "k1") 46) (p.Start (i (codes "alice") 46) (i (codes "Keygen") 46) ([]) None None))
        ∷ (sp 46 (i (codes "k2") 46) (p.Start (i (codes "bob") 46) (i (codes "Keygen") 46) ([]) None None)) ∷
        [])) ∷
        (rd 47 ((sp 47 (i (codes "i") 47) (p.Start (i (codes "alice") 47) (i (codes "Init1") 47) ((i (codes "bob")
        47) ∷ []) None None)) ∷ [])) ∷
        (rd 48 ((sp 48 (i (codes "r") 48) (p.Start (i (codes "bob") 48) (i (codes "Resp1") 48) ([]) None (Some (nb
        48 (i (codes "i") 48) 1)))) ∷ [])) ∷
        (rd 49 ((sp 49 (i (codes "f") 49) (p.Start (i (codes "alice") 49) (i (codes "Init2") 49) ([]) (Some (os 49
        (i (codes "i") 49))) (Some (nb 49 (i (codes "r") 49) 1)))) ∷ [])) ∷
        (rd 50 ((sp 50 (i (codes "a") 50) (p.Start (i (codes "bob") 50) (i (codes "Resp2") 50) ([]) (Some (os 50 (i
        (codes "r") 50))) (Some (nb 50 (i (codes "f") 50) 1)))) ∷ [])) ∷ [];
  };
}

canon_a : canon file_a ≡ lines (
    codes "dystar 1" ∷
    codes "usage pke Dec(owner);" ∷
    codes "usage nonce Rand();" ∷
    codes "event Respond(name b, name a, nb);" ∷
    codes "event Finish(name a, name b, nb) after Respond(b, a, nb) unless join(a, b);" ∷
    codes "event Accept(name b, name a, nb) after Finish(a, b, nb) unless join(a, b);" ∷
    codes "case Dec \"m1\"(na: secret join(a, owner), a: name);" ∷
    codes "case Dec \"m2\"(na: upto join(owner, b), nb: secret join(owner, b), b: name) requires Respond(b, owner, nb);" ∷
    codes "case Dec \"m3\"(nb: upto join(a, owner), a: name) requires Finish(a, owner, nb);" ∷
    codes "state Key lasting (sk: key self Dec(self));" ∷
    codes "state Init (na: secret join(self, b), b: name);" ∷
    codes "state Resp (nb: secret join(self, a), a: name);" ∷
    codes "handler Keygen args() {" ∷
    codes "  new sk : Dec(self) secret self;" ∷
    codes "  certify sk as Dec;" ∷
    codes "  store Key(sk);" ∷
    codes "}" ∷
    codes "handler Init1 args(b) {" ∷
    codes "  find Dec of b as pkb;" ∷
    codes "  new na : Rand() secret join(self, b);" ∷
    codes "  send penc(pkb using Dec(b), \"m1\"(na, self));" ∷
    codes "  store Init(na, b);" ∷
    codes "}" ∷
    codes "handler Resp1 args() recv m {" ∷
    codes "  use Key(sk);" ∷
    codes "  popen m with sk using Dec(self) as \"m1\"(na, name a);" ∷
    codes "  find Dec of a as pka;" ∷
    codes "  new nb : Rand() secret join(self, a);" ∷
    codes "  event Respond(self, a, nb);" ∷
    codes "  send penc(pka using Dec(a), \"m2\"(na, nb, self));" ∷
    codes "  store Resp(nb, a);" ∷
    codes "}" ∷
    codes "handler Init2 on Init(na, name b) args() recv m {" ∷
    codes "  use Key(sk);" ∷
    codes "  popen m with sk using Dec(self) as \"m2\"(=na, nb, =b);" ∷
    codes "  event Finish(self, b, nb);" ∷
    codes "  find Dec of b as pkb;" ∷
    codes "  send penc(pkb using Dec(b), \"m3\"(nb, self));" ∷
    codes "}" ∷
    codes "handler Resp2 on Resp(nb, name a) args() recv m {" ∷
    codes "  use Key(sk);" ∷
    codes "  popen m with sk using Dec(self) as \"m3\"(=nb, =a);" ∷
    codes "  event Accept(self, a, nb);" ∷
    codes "}" ∷
    codes "plan {" ∷
    codes "  round { k1: alice Keygen(); k2: bob Keygen(); }" ∷
    codes "  round { i: alice Init1(bob); }" ∷
    codes "  round { r: bob Resp1() msg i.1; }" ∷
    codes "  round { f: alice Init2() on i msg r.1; }" ∷
    codes "  round { a: bob Resp2() on r msg f.1; }" ∷
    codes "}" ∷
    [])
unfolding digits gap ending_of more_to comma_list list_end use_text atom label expr field_type field row param
    partner table usage_decl case_decl event_decl state_decl pattern_ act seal opened_as on_args recv_open handler decl recipe
    msg_end start_end action step round rounds file
canon_a = refl

abbrev file_d : f.File
file_d = record {
  version = 1;
  decls =
      f.Handler (record {
        line = 2;
        name = (i (codes "Ping") 2);
        on = None;
        args = ([]);
        recv = None;
        body = (
            (st 3 (s.Send (e.Lit (q (codes "ping") 3)))) ∷ []);
      }) ∷ [];
  plan = record {
    rounds =
        (rd 6 ((sp 6 (i (codes "a") 6) (p.Start (i (codes "alice") 6) (i (codes "Ping") 6) ([]) None None)) ∷ [])) ∷
        [];
  };
}

canon_d : canon file_d ≡ lines (
    codes "dystar 1" ∷
    codes "handler Ping args() {" ∷
    codes "  send \"ping\";" ∷
    codes "}" ∷
    codes "plan {" ∷
    codes "  round { a: alice Ping(); }" ∷
    codes "}" ∷
    [])
unfolding digits gap ending_of more_to comma_list list_end use_text atom label expr field_type field row param
    partner table usage_decl case_decl event_decl state_decl pattern_ act seal opened_as on_args recv_open handler decl recipe
    msg_end start_end action step round rounds file
canon_d = refl

abbrev file_e : f.File
file_e = record {
  version = 1;
  decls =
      f.Usage (record {
        line = 2;
        kind = n.Sig;
        kind_line = 2;
        name = (i (codes "Sk") 2);
        params = ((i (codes
            "owner") 2) ∷ []);
        rows = ([]);
      }) ∷
      f.Event (record {
        line = 3;
        name = (i (codes "Ask") 3);
        params = ((pm 3 true (i (codes "b") 3)) ∷ (pm 3
            false (i (codes "x") 3)) ∷ []);
        after = [];
      }) ∷
      f.Event (record {
        line = 4;
        name = (i (codes "Done") 4);
        params = ((pm 4 true (i (codes "a") 4)) ∷ (pm 4
            true (i (codes "b") 4)) ∷ (pm 4 false (i (codes "x") 4)) ∷ []);
        after = ((pt (at (i (codes "Ask") 4)
            ((n.Named (i (codes "b") 4)) ∷ (n.Named (i (codes "x") 4)) ∷ [])) (l.One (n.Named (i (codes "a") 4)))) ∷
            []);
      }) ∷
      f.Case (record {
        line = 5;
        usage = (i (codes "Sk") 5);
        tag = (q (codes "ask") 5);
        fields = ((fl (i (codes
            "x") 5) d.Any 5) ∷ []);
        requires_ = ((at (i (codes "Ask") 5) ((n.Named (i (codes "owner") 5)) ∷ (n.Named
            (i (codes "x") 5)) ∷ [])) ∷ []);
      }) ∷
      f.Handler (record {
        line = 6;
        name = (i (codes "Take") 6);
        on = None;
        args = ((i (codes "b") 6) ∷ []);
        recv
            = (Some (i (codes "m") 6));
        body = (
            (st 7 (s.Find (i (codes "Sk") 7) (n.Named (i (codes "b") 7)) (i (codes "v") 7))) ∷
            (st 8 (s.Verify (i (codes "m") 8) (i (codes "v") 8) (u (i (codes "Sk") 8) ((n.Named (i (codes "b") 8)) ∷
            [])) (q (codes "ask") 8) ((s.Bind (i (codes "x") 8)) ∷ []))) ∷
            (st 9 (s.Event (at (i (codes "Done") 9) ((n.Me 9) ∷ (n.Named (i (codes "b") 9)) ∷ (n.Named (i (codes
            "x") 9)) ∷ [])))) ∷ []);
      }) ∷ [];
  plan = record { rounds = [] };
}

canon_e : canon file_e ≡ lines (
    codes "dystar 1" ∷
    codes "usage sig Sk(owner);" ∷
    codes "event Ask(name b, x);" ∷
    codes "event Done(name a, name b, x) after Ask(b, x) unless a;" ∷
    codes "case Sk \"ask\"(x: any) requires Ask(owner, x);" ∷
    codes "handler Take args(b) recv m {" ∷
    codes "  find Sk of b as v;" ∷
    codes "  verify m with v using Sk(b) as \"ask\"(x);" ∷
    codes "  event Done(self, b, x);" ∷
    codes "}" ∷
    [])
unfolding digits gap ending_of more_to comma_list list_end use_text atom label expr field_type field row param
    partner table usage_decl case_decl event_decl state_decl pattern_ act seal opened_as on_args recv_open handler decl recipe
    msg_end start_end action step round rounds file
canon_e = refl

abbrev file_k : f.File
file_k = record {
  version = 1;
  decls =
      f.Usage (record {
        line = 2;
        kind = n.Aead;
        kind_line = 2;
        name = (i (codes "Box") 2);
        params = ([]);
        rows =
            ([]);
      }) ∷
      f.Case (record {
        line = 3;
        usage = (i (codes "Box") 3);
        tag = (q (codes "d") 3);
        fields = ((fl (i (codes
            "x") 3) d.Any 3) ∷ []);
        requires_ = [];
      }) ∷
      f.Handler (record {
        line = 4;
        name = (i (codes "Send") 4);
        on = None;
        args = ([]);
        recv = None;
        body = (
            (st 5 (s.New (i (codes "k") 5) (u (i (codes "Box") 5) ([])) (l.Nobody 5))) ∷
            (st 6 (s.Send (e.Aead 6 (n.Named (i (codes "k") 6)) (u (i (codes "Box") 6) ([])) (q (codes "d") 6)
            (e.Cons (e.Lit (q (codes "hi") 6)) e.Nil) (e.Lit (q (codes "") 6))))) ∷ []);
      }) ∷
      f.Handler (record {
        line = 8;
        name = (i (codes "Get") 8);
        on = None;
        args = ([]);
        recv = (Some (i (codes
            "m") 8));
        body = (
            (st 9 (s.New (i (codes "k") 9) (u (i (codes "Box") 9) ([])) (l.Nobody 9))) ∷
            (st 10 (s.Send (e.Lit (q (codes "got") 10)))) ∷
            (st 11 (s.Opened (i (codes "m") 11) (i (codes "k") 11) (u (i (codes "Box") 11) ([])) (q (codes "d") 11)
            ((s.Bind (i (codes "x") 11)) ∷ []) (e.Lit (q (codes "") 11)))) ∷ []);
      }) ∷ [];
  plan = record {
    rounds =
        (rd 14 ((sp 14 (i (codes "s") 14) (p.Start (i (codes "alice") 14) (i (codes "Send") 14) ([]) None None)) ∷
        [])) ∷
        (rd 15 ([])) ∷
        (rd 16 ((sp 16 (i (codes "g") 16) (p.Start (i (codes "bob") 16) (i (codes "Get") 16) ([]) None (Some (nb 16
        (i (codes "s") 16) 1)))) ∷ [])) ∷ [];
  };
}

canon_k : canon file_k ≡ lines (
    codes "dystar 1" ∷
    codes "usage aead Box();" ∷
    codes "case Box \"d\"(x: any);" ∷
    codes "handler Send args() {" ∷
    codes "  new k : Box() secret nobody;" ∷
    codes "  send aead(k using Box(), \"d\"(\"hi\"), \"\");" ∷
    codes "}" ∷
    codes "handler Get args() recv m {" ∷
    codes "  new k : Box() secret nobody;" ∷
    codes "  send \"got\";" ∷
    codes "  open m with k using Box() as \"d\"(x) ad \"\";" ∷
    codes "}" ∷
    codes "plan {" ∷
    codes "  round { s: alice Send(); }" ∷
    codes "  round { }" ∷
    codes "  round { g: bob Get() msg s.1; }" ∷
    codes "}" ∷
    [])
unfolding digits gap ending_of more_to comma_list list_end use_text atom label expr field_type field row param
    partner table usage_decl case_decl event_decl state_decl pattern_ act seal opened_as on_args recv_open handler decl recipe
    msg_end start_end action step round rounds file
canon_k = refl

abbrev file_q : f.File
file_q = record {
  version = 1;
  decls =
      f.Usage (record {
        line = 2;
        kind = n.Aead;
        kind_line = 2;
        name = (i (codes "Box") 2);
        params = ([]);
        rows =
            ([]);
      }) ∷
      f.Usage (record {
        line = 3;
        kind = n.Nonce;
        kind_line = 3;
        name = (i (codes "Rand") 3);
        params = ([]);
        rows
            = ([]);
      }) ∷
      f.Usage (record {
        line = 4;
        kind = n.Kdf;
        kind_line = 4;
        name = (i (codes "Root") 4);
        params = ([]);
        rows =
            ((rw (q (codes "c") 4) n.Aead 4 (i (codes "Box") 4)) ∷ []);
      }) ∷
      f.Case (record {
        line = 5;
        usage = (i (codes "Box") 5);
        tag = (q (codes "s") 5);
        fields = ((fl (i (codes
            "x") 5) d.Any 5) ∷ []);
        requires_ = [];
      }) ∷
      f.Handler (record {
        line = 6;
        name = (i (codes "Derive") 6);
        on = None;
        args = ([]);
        recv = None;
        body = (
            (st 7 (s.New (i (codes "r") 7) (u (i (codes "Root") 7) ([])) (l.One (n.Me 7)))) ∷
            (st 8 (s.Let (i (codes "k") 8) (e.Kdf 8 (n.Named (i (codes "r") 8)) (q (codes "c") 8) (e.Lit (q (codes
            "") 8))))) ∷
            (st 9 (s.Send (e.Aead 9 (n.Named (i (codes "k") 9)) (u (i (codes "Box") 9) ([])) (q (codes "s") 9)
            (e.Cons (e.Lit (q (codes "hi") 9)) e.Nil) (e.Lit (q (codes "") 9))))) ∷ []);
      }) ∷ [];
  plan = record { rounds = [] };
}

canon_q : canon file_q ≡ lines (
    codes "dystar 1" ∷
    codes "usage aead Box();" ∷
    codes "usage nonce Rand();" ∷
    codes "usage kdf Root() { \"c\" -> aead Box; };" ∷
    codes "case Box \"s\"(x: any);" ∷
    codes "handler Derive args() {" ∷
    codes "  new r : Root() secret self;" ∷
    codes "  let k = kdf(r, \"c\", \"\");" ∷
    codes "  send aead(k using Box(), \"s\"(\"hi\"), \"\");" ∷
    codes "}" ∷
    [])
unfolding digits gap ending_of more_to comma_list list_end use_text atom label expr field_type field row param
    partner table usage_decl case_decl event_decl state_decl pattern_ act seal opened_as on_args recv_open handler decl recipe
    msg_end start_end action step round rounds file
canon_q = refl
