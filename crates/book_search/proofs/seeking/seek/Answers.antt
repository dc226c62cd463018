use Rattle.book_search.proofs.SoughtLaws.{whole_loads}
use Rattle.book_search.proofs.seeking.seek.Goals as goal

pub returns-clause-loads : goal.returns-clause-loads
returns-clause-loads c =
    whole_loads c.args.book.now.listing _ c.args.pass.now.view
    c.read_predecessors.new.pass.view c.find_room.new.pass.view
    c.read_predecessors.ensures.read c.find_room.ensures.on c.find_room.ensures.under
