use Rattle.vod_cells.proofs.Events.{put_events, start_events}
use Rattle.vod_cells.proofs.laws.writes_are_events.Goals as goal

pub returns-clause-put : goal.returns-clause-put
returns-clause-put c = put_events

pub returns-clause-start : goal.returns-clause-start
returns-clause-start c = start_events
