use Rattle.std.proofs.Common.{◌≡◌, ◌∙◌, ap, subst, map}
use Rattle.std.specs.Prelude.{Ok}
use Rattle.clap.specs.Words.{app_of, found_of, rows_of}
use Rattle.leo_command.specs.Commands.{IsAskedOf, IsParse, IsSearchIn, leo3_app}
use Rattle.leo_command.proofs.Asking.{asked_nothing, asked_none, asked_work, on_err, parse_of}
use Rattle.leo_command.proofs.leo3.leo3_asked.Goals as goal

pub returns-in_err-matches : goal.returns-in_err-matches
returns-in_err-matches c =
    let given : map (λ w. w.now) c.deref.result.now ≡ c.args.words.now = ap (map (λ w. w.now)) c.deref.ensures.value ∙ c.in_ok-list.ensures in
    let parse = parse_of (app_of c.in_ok-command.field-0) leo3_app _ c.args.words.now c.parsed.result c.in_ok-command.ensures given c.parsed.ensures in
    on_err (IsAskedOf leo3_app IsSearchIn c.args.words.now) c.from_residual-in_err-matches.result c.in_err-matches.field-0.0 c.from_residual-in_err-matches.ensures.1
    (asked_nothing leo3_app IsSearchIn c.args.words.now c.in_err-matches.field-0.0 (subst (λ r. IsParse leo3_app c.args.words.now r) c.in_err-matches.was parse))

pub returns-in_err-search_in-in-Matches : goal.returns-in_err-search_in-in-Matches
returns-in_err-search_in-in-Matches c =
    let given : map (λ w. w.now) c.deref.result.now ≡ c.args.words.now = ap (map (λ w. w.now)) c.deref.ensures.value ∙ c.in_ok-list.ensures in
    let parse = parse_of (app_of c.in_ok-command.field-0) leo3_app _ c.args.words.now c.parsed.result c.in_ok-command.ensures given c.parsed.ensures in
    let taken = subst (λ r. IsParse leo3_app c.args.words.now r) (c.in_ok-matches.was ∙ ap Ok c.in-Matches.is) parse in
    on_err (IsAskedOf leo3_app IsSearchIn c.args.words.now) c.from_residual-in_err-search_in-in-Matches.result c.in_err-search_in-in-Matches.field-0.0
    c.from_residual-in_err-search_in-in-Matches.ensures.1
    (asked_none leo3_app IsSearchIn c.args.words.now (rows_of (found_of c.in-Matches.matches)) c.in_err-search_in-in-Matches.field-0.0 taken.0 taken.1 c.in_err-search_in-in-Matches.ensures)

pub returns-in-Matches : goal.returns-in-Matches
returns-in-Matches c =
    let given : map (λ w. w.now) c.deref.result.now ≡ c.args.words.now = ap (map (λ w. w.now)) c.deref.ensures.value ∙ c.in_ok-list.ensures in
    let parse = parse_of (app_of c.in_ok-command.field-0) leo3_app _ c.args.words.now c.parsed.result c.in_ok-command.ensures given c.parsed.ensures in
    let taken = subst (λ r. IsParse leo3_app c.args.words.now r) (c.in_ok-matches.was ∙ ap Ok c.in-Matches.is) parse in
    asked_work leo3_app IsSearchIn c.args.words.now (rows_of (found_of c.in-Matches.matches)) _ taken.0 taken.1 c.in_ok-search_in-in-Matches.ensures

pub returns : goal.returns
returns c =
    let given : map (λ w. w.now) c.deref.result.now ≡ c.args.words.now = ap (map (λ w. w.now)) c.deref.ensures.value ∙ c.in_ok-list.ensures in
    let parse = parse_of (app_of c.in_ok-command.field-0) leo3_app _ c.args.words.now c.parsed.result c.in_ok-command.ensures given c.parsed.ensures in
    subst (λ r. IsParse leo3_app c.args.words.now r) (c.in_ok-matches.was ∙ ap Ok c.in-Text.is) parse
