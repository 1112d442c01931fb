-- What is asked for is within what a command may ask for.
use Rattle.std.proofs.Common.{map}
use Rattle.std.specs.String.{string_bytes}
use Rattle.sd_engine.proofs.Commands.{command-within}
use Rattle.sd_engine.proofs.top_call.serve.Goals as goal

pub serve_command-requires : goal.serve_command-requires
serve_command-requires g c = command-within (map string_bytes c.args.words.now) _ c.in-Ok.ensures
