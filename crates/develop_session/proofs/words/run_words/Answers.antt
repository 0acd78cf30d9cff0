use Rattle.outside.specs.Faults.{Rose}
use Rattle.publish.specs.Files.{RoseAt}
use Rattle.develop_session.specs.Names.{command, replay, session}
use Rattle.develop_session.specs.Words.{command_of, replay_of, session_of, texts}
use Rattle.develop_session.proofs.CompleteLemmas.{develop_served, stepped_served, session_served}
use Rattle.develop_session.proofs.words.run_words.Goals as goal

pub returns-in-Some-clause-develop_served : goal.returns-in-Some-clause-develop_served
returns-in-Some-clause-develop_served g c =
    develop_served (command_of (texts c.args.words.now)) (command c.in-Some.names) (g.S.Shelf.files c.args.shelf.now) (g.S.Shelf.files c.develop_once.new.shelf)
    (RoseAt (g.S.Shelf.read_faults c.args.shelf.now) (g.S.Shelf.read_faults c.develop_once.new.shelf)) (RoseAt (g.S.Shelf.put_faults c.args.shelf.now) (g.S.Shelf.put_faults c.develop_once.new.shelf))
    (Rose (g.O.Said.faults c.args.said.now) (g.O.Said.faults c.develop_once.new.said)) (g.O.Said.said c.args.said.now) (g.O.Said.said c.develop_once.new.said) c.develop_once.result c.in-Some.ensures c.develop_once.ensures

pub returns-in-Some-replay_names_of-clause-stepped_served : goal.returns-in-Some-replay_names_of-clause-stepped_served
returns-in-Some-replay_names_of-clause-stepped_served g c =
    stepped_served (replay_of (texts c.args.words.now)) (replay c.in-Some-replay_names_of.names) (g.S.Shelf.files c.args.shelf.now) (g.S.Shelf.files c.run_stepped.new.shelf)
    (RoseAt (g.S.Shelf.read_faults c.args.shelf.now) (g.S.Shelf.read_faults c.run_stepped.new.shelf)) (RoseAt (g.S.Shelf.put_faults c.args.shelf.now) (g.S.Shelf.put_faults c.run_stepped.new.shelf))
    (Rose (g.O.Said.faults c.args.said.now) (g.O.Said.faults c.run_stepped.new.said)) (g.O.Said.said c.args.said.now) (g.O.Said.said c.run_stepped.new.said) c.run_stepped.result c.in-Some-replay_names_of.ensures
    c.run_stepped.ensures

pub returns-in-Some-session_names_of-clause-session_served : goal.returns-in-Some-session_names_of-clause-session_served
returns-in-Some-session_names_of-clause-session_served g c =
    session_served (session_of (texts c.args.words.now)) (session c.in-Some-session_names_of.names) (g.S.Shelf.files c.args.shelf.now) (g.S.Shelf.files c.run_session.new.shelf)
    (RoseAt (g.S.Shelf.read_faults c.args.shelf.now) (g.S.Shelf.read_faults c.run_session.new.shelf)) (RoseAt (g.S.Shelf.put_faults c.args.shelf.now) (g.S.Shelf.put_faults c.run_session.new.shelf))
    (Rose (g.O.Said.faults c.args.said.now) (g.O.Said.faults c.run_session.new.said)) (g.O.Said.said c.args.said.now) (g.O.Said.said c.run_session.new.said) c.run_session.result c.in-Some-session_names_of.ensures
    c.run_session.ensures
