use Rattle.qpack_safety.proofs.LawfulFlights.{flights_lawful}
use Rattle.qpack_safety.proofs.strict_flights_are_lawful.Goals as goal

pub returns : goal.returns
returns c = flights_lawful
