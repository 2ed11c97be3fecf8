use Rattle.dimacs.proofs.Loading.{loads_map}
use Rattle.dimacs.proofs.load.load_map.Goals as goal

pub returns-clause-document : goal.returns-clause-document
returns-clause-document c = loads_map c.args.file.now _ c.args.map.now _ c.redraw.ensures.answer c.redraw.ensures.after
