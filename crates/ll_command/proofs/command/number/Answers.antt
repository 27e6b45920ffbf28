use Rattle.std.proofs.Common.{◌≡◌, ◌∙◌, List, ℕ, Option, Some, None, option_and_then, refl, ap}
use Rattle.std.specs.Str.Parse.{ParsesUnsigned, ExplainsUnsignedError, HasUnsignedDigitsIfOk}
use Rattle.clap.proofs.WalkLemmas.{one_text-rows}
use Rattle.clap.specs.Words.{found_of, one_text}
use Rattle.ll_command.specs.Command.{number_in}
use Rattle.ll_command.proofs.CommandLine.{number_in-read}
use Rattle.ll_command.proofs.command.number.Goals as goal

pub returns : goal.returns
returns c =
    let found = found_of c.args.matches.now in
    let by_text : (t : Option (List ℕ)) → one_text found c.args.name.now ≡ t → c.get_one.result ≡ option_and_then number_in t =
    elim [
      | None ↦ λ is. c.get_one.ensures.none is
      | Some text ↦ λ is. number_in-read _
          (λ bytes read. ParsesUnsigned 64 10 bytes read × ExplainsUnsignedError 10 bytes read × HasUnsignedDigitsIfOk bytes read)
          text c.get_one.result (c.get_one.ensures.value text is) (λ bytes read gives. gives.0)
    ] in
    by_text (one_text found c.args.name.now) refl
    ∙ ap (option_and_then number_in) (one_text-rows found c.args.name.now)
